use Rattle.tclv_vars.proofs.LawLemmas.{link_others}
use Rattle.tclv_vars.proofs.laws.a_link_leaves_others.Goals as goal

pub returns : goal.returns
returns c = link_others
