use Rattle.std.proofs.Common.{rules, ap}
use Rattle.tclv_engine.specs.State.{state_of}
use Rattle.tclv_engine.specs.Operations.{truth_number}
use Rattle.tclv_engine.proofs.Binds.{runs_as, bind_ok, then_stop}
use Rattle.tclv_engine.proofs.machine.Machine.top_truth.Goals as goal

pub returns-in_err-found-clause-answer : goal.returns-in_err-found-clause-answer
returns-in_err-found-clause-answer g c here w told = then_stop _ (search rules) (c.in_err-found.ensures.answer here w told)

pub returns-clause-answer : goal.returns-clause-answer
returns-clause-answer g c here w told =
    bind_ok _ (c.in_ok-found.ensures.answer here w told)
    (λ b v e shown. runs_as (ap (λ x. truth_number x (state_of c.truth_on_top.new.self v)) shown) (c.truth_number.ensures.answer here v e))
