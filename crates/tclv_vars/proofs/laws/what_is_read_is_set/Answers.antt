use Rattle.tclv_vars.proofs.LawLemmas.{read_is_set}
use Rattle.tclv_vars.proofs.laws.what_is_read_is_set.Goals as goal

pub returns : goal.returns
returns c = read_is_set
