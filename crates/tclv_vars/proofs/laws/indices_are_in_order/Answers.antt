use Rattle.tclv_vars.proofs.OrderLemmas.{names_in_order}
use Rattle.tclv_vars.proofs.laws.indices_are_in_order.Goals as goal

pub returns : goal.returns
returns c = names_in_order
