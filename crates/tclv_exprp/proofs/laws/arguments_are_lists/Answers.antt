use Rattle.tclv_exprp.proofs.ChainLemmas.{arguments_are}
use Rattle.tclv_exprp.proofs.laws.arguments_are_lists.Goals as goal

pub returns : goal.returns
returns c = arguments_are
