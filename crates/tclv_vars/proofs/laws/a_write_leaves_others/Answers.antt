use Rattle.tclv_vars.proofs.LawLemmas.{write_others}
use Rattle.tclv_vars.proofs.laws.a_write_leaves_others.Goals as goal

pub returns : goal.returns
returns c = write_others
