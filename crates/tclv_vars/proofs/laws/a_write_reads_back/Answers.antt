use Rattle.tclv_vars.proofs.LawLemmas.{reads_back}
use Rattle.tclv_vars.proofs.laws.a_write_reads_back.Goals as goal

pub returns : goal.returns
returns c = reads_back
