use Rattle.std.proofs.Common.{ap, sym}
use Rattle.tclv_engine.specs.State.{state_of}
use Rattle.tclv_engine.specs.Operations.{truth_number}
use Rattle.tclv_engine.proofs.Binds.{runs_as}
use Rattle.tclv_engine.proofs.machine.Machine.truth_number.Goals as goal

pub returns-then-b-clause-answer : goal.returns-then-b-clause-answer
returns-then-b-clause-answer g c here w told = runs_as (ap (λ x. truth_number x (state_of c.args.self.now w)) (sym c.if-b.true)) (c.number.ensures.answer here w told)

pub returns-else-b-clause-answer : goal.returns-else-b-clause-answer
returns-else-b-clause-answer g c here w told = runs_as (ap (λ x. truth_number x (state_of c.args.self.now w)) (sym c.if-b.false)) (c.number-else-b.ensures.answer here w told)
