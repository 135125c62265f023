use Rattle.std.proofs.Common.{rules, ap}
use Rattle.tclv_engine.specs.State.{state_of}
use Rattle.tclv_engine.specs.Plans.{PlanOver}
use Rattle.tclv_engine.proofs.Binds.{runs_as, bind_ok, then_stop}
use Rattle.tclv_engine.proofs.StackLemmas.{keeps_all}
use Rattle.tclv_control.specs.CatchSteps.{numbered}
use Rattle.tclv_control.proofs.PlanLemmas.{plan_on}
use Rattle.tclv_control.proofs.CatchLemmas.{error_over}
use Rattle.tclv_control.proofs.catch_plans.finish_options.Goals as goal

pub returns-in_err-note_options-clause-answer : goal.returns-in_err-note_options-clause-answer
returns-in_err-note_options-clause-answer g c here w told = then_stop _ (search rules) (c.in_err-note_options.ensures.answer here w told)

pub returns-in_err-note_options-clause-stack : goal.returns-in_err-note_options-clause-stack
returns-in_err-note_options-clause-stack g c =
    let stack = c.args.machine.now.values.store.stack in
    error_over (PlanOver stack) (Unit {0}) stack stack _ _ _ (keeps_all stack) (search rules) c.in_err-note_options.ensures.stack

pub returns-clause-answer : goal.returns-clause-answer
returns-clause-answer g c here w told =
    bind_ok _ (c.in_ok-note_options.ensures.answer here w told)
    (λ os v e shown. runs_as (ap (λ k. numbered k (state_of c.note_options.new.machine v)) c.code_ended-code.ensures) (c.finish_code.ensures.answer here v e))

pub returns-clause-stack : goal.returns-clause-stack
returns-clause-stack g c =
    let stack = c.args.machine.now.values.store.stack in
    plan_on stack c.note_options.new.machine.values.store.stack c.finish_code.result c.finish_code.new.machine.values.store.stack c.in_ok-note_options.ensures.stack c.finish_code.ensures.stack
