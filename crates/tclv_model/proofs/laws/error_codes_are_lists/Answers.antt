use Rattle.tclv_model.proofs.CodeLemmas.{codes_are_lists}
use Rattle.tclv_model.proofs.laws.error_codes_are_lists.Goals as goal

pub returns : goal.returns
returns c = codes_are_lists
