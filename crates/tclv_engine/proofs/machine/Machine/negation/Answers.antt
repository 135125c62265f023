use Rattle.std.proofs.Common.{rules, ap, ◌-◌, [], get_or, not}
use Rattle.tclv_engine.specs.State.{state_of}
use Rattle.tclv_engine.specs.Operations.{truth_of, truth_number}
use Rattle.tclv_engine.proofs.Binds.{runs_as, bind_ok, then_stop}
use Rattle.tclv_engine.proofs.machine.Machine.negation.Goals as goal

pub returns-in_err-b-clause-answer : goal.returns-in_err-b-clause-answer
returns-in_err-b-clause-answer g c here w told =
    let stack = c.args.self.now.values.store.stack in
    then_stop _ (search rules) (runs_as (ap (λ l. truth_of (get_or stack (l - 1) []) (state_of c.args.self.now w)) c.height.ensures) (c.in_err-b.ensures.answer here w told))

pub returns-clause-answer : goal.returns-clause-answer
returns-clause-answer g c here w told =
    let stack = c.args.self.now.values.store.stack in
    bind_ok _ (runs_as (ap (λ l. truth_of (get_or stack (l - 1) []) (state_of c.args.self.now w)) c.height.ensures) (c.in_ok-b.ensures.answer here w told))
    (λ b v e shown. runs_as (ap (λ x. truth_number (not x) (state_of c.truth_at.new.self v)) shown) (c.truth_number.ensures.answer here v e))
