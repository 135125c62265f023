use Rattle.std.proofs.Common.{rules, refl, ap, ◌-◌, arith}
use Rattle.tclv_value.specs.Stacks.{top, under}
use Rattle.tclv_reply.specs.Replies as replies
use Rattle.tclv_ctl.specs.declared.handlers.TryPlan.{TryPlan}
use Rattle.tclv_engine.specs.State.{state_of}
use Rattle.tclv_engine.specs.Plans.{PlanOver}
use Rattle.tclv_engine.proofs.Binds.{runs_as, bind_ok, then_stop}
use Rattle.tclv_control.specs.TryRows.{body_wanted}
use Rattle.tclv_control.proofs.PlanLemmas.{keeps_under, error_under, plan_on}
use Rattle.tclv_control.proofs.TryLemmas.{try_refused, try_row}
use Rattle.tclv_control.proofs.try_plans.plan_try.Goals as goal

pub returns-in-1-clause-answer : goal.returns-in-1-clause-answer
returns-in-1-clause-answer g c here w told =
    runs_as (try_refused c.args.machine.now.values.store.stack c.args.n (state_of c.args.machine.now w) c.requires.words c.in-1.is) (c.misused.ensures.answer here w told)

pub returns-in_err-asked-in_default-clause-answer : goal.returns-in_err-asked-in_default-clause-answer
returns-in_err-asked-in_default-clause-answer g c here w told =
    runs_as (try_row c.args.machine.now.values.store.stack c.args.n (state_of c.args.machine.now w) c.requires.some c.requires.words)
    (then_stop _ (search rules) (c.in_err-asked-in_default.ensures.answer here w told))

pub returns-in_err-asked-in_default-clause-stack : goal.returns-in_err-asked-in_default-clause-stack
returns-in_err-asked-in_default-clause-stack g c =
    let stack = c.args.machine.now.values.store.stack in
    error_under (PlanOver (under c.args.n stack)) TryPlan (c.args.n - 1) c.args.n stack _ _ _ (omega arith) (search rules) c.in_err-asked-in_default.ensures.stack

pub returns-in_ok-asked-in_default-clause-answer : goal.returns-in_ok-asked-in_default-clause-answer
returns-in_ok-asked-in_default-clause-answer g c here w told =
    let m = c.args.n - 1 in
    runs_as (try_row c.args.machine.now.values.store.stack c.args.n (state_of c.args.machine.now w) c.requires.some c.requires.words)
    (bind_ok _ (c.in_ok-asked-in_default.ensures.answer here w told)
    (λ said v e shown. runs_as (ap (λ s. body_wanted (replies.call_word m s) (top m s) (state_of c.asked.new.machine v)) c.in_ok-asked-in_default.ensures.kept)
    (c.plan_body.ensures.answer here v e)))

pub returns-in_ok-asked-in_default-clause-stack : goal.returns-in_ok-asked-in_default-clause-stack
returns-in_ok-asked-in_default-clause-stack g c =
    let stack = c.args.machine.now.values.store.stack in
    plan_on (under c.args.n stack) c.asked.new.machine.values.store.stack c.plan_body.result c.plan_body.new.machine.values.store.stack
    (keeps_under (c.args.n - 1) c.args.n stack c.asked.new.machine.values.store.stack (omega arith) c.in_ok-asked-in_default.ensures.stack) c.plan_body.ensures.stack
