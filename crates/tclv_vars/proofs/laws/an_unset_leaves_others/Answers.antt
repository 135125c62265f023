use Rattle.tclv_vars.proofs.LawLemmas.{unset_others}
use Rattle.tclv_vars.proofs.laws.an_unset_leaves_others.Goals as goal

pub returns : goal.returns
returns c = unset_others
