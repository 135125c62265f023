use Rattle.std.proofs.Common.{drop, ap, ◌∙◌}
use Rattle.tclv_exprp.proofs.FrontLemmas.{drop-next}
use Rattle.tclv_exprp.proofs.fronts.pass.Goals as goal

pub loop-turn-preserved : goal.loop-turn-preserved
loop-turn-preserved c = c.skip.ensures ∙ ap (drop 1) c.loop-turn.invariant ∙ drop-next c.loop-turn._turn c.args.cursor.now
