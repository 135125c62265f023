use Rattle.tclv_plain.proofs.VariableRowLemmas.{ok_runs}
use Rattle.tclv_plain.proofs.variable_commands.read_result.Goals as goal

pub returns-clause-answer : goal.returns-clause-answer
returns-clause-answer g c here w told = ok_runs (c.push_variable_at.ensures.answer here w told)
