use Rattle.tclv_exprp.proofs.MissLemmas.{faults_of_operands}
use Rattle.tclv_exprp.proofs.laws.syntax_is_where_no_operand_goes_on.Goals as goal

pub returns : goal.returns
returns c = faults_of_operands
