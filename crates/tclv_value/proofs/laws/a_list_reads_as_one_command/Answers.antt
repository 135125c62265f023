use Rattle.tclv_value.proofs.CommandLemmas.{one_command}
use Rattle.tclv_value.proofs.laws.a_list_reads_as_one_command.Goals as goal

pub returns : goal.returns
returns c = one_command
