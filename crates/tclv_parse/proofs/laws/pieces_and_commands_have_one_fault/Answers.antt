use Rattle.tclv_parse.proofs.Alike.{one-fault}
use Rattle.tclv_parse.proofs.laws.pieces_and_commands_have_one_fault.Goals as goal

pub returns : goal.returns
returns c t = one-fault t
