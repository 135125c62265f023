use Rattle.std.proofs.Common.{rules}
use Rattle.tclv_engine.proofs.Binds.{answers_as}
use Rattle.tclv_engine.proofs.Leaves.{then_same}
use Rattle.tclv_engine.proofs.machine.Machine.take_truth.Goals as goal

pub returns-in_err-b-clause-answer : goal.returns-in_err-b-clause-answer
returns-in_err-b-clause-answer g c here w told = answers_as (search rules) (c.in_err-b.ensures.answer here w told)

pub returns-clause-answer : goal.returns-clause-answer
returns-clause-answer g c here w told = then_same (c.in_ok-b.ensures.answer here w told) (search rules) (λ b shown. shown)
