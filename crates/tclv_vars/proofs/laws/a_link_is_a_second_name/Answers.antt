use Rattle.tclv_vars.proofs.LawLemmas.{second_names}
use Rattle.tclv_vars.proofs.laws.a_link_is_a_second_name.Goals as goal

pub returns : goal.returns
returns c = second_names
