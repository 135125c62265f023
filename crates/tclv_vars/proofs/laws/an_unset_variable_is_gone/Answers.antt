use Rattle.tclv_vars.proofs.LawLemmas.{is_gone}
use Rattle.tclv_vars.proofs.laws.an_unset_variable_is_gone.Goals as goal

pub returns : goal.returns
returns c = is_gone
