use Rattle.tclv_exprp.proofs.LevelLemmas.{more, trees_have_levels}
use Rattle.tclv_exprp.proofs.laws.trees_have_levels.Goals as goal

pub returns : goal.returns
returns c = record { trees = trees_have_levels c.scripts_have_levels.ensures.readers; more = more }
