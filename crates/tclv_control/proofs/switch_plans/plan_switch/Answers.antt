use Rattle.std.proofs.Common.{rules, ap, ◌-◌, arith}
use Rattle.tclv_value.specs.Stacks.{under}
use Rattle.tclv_ctl.specs.declared.switching.SwitchPlan.{SwitchPlan}
use Rattle.tclv_engine.specs.State.{state_of}
use Rattle.tclv_engine.specs.Results.{done}
use Rattle.tclv_engine.specs.Plans.{PlanOver}
use Rattle.tclv_engine.proofs.Binds.{runs_as, bind_ok, then_stop}
use Rattle.tclv_control.specs.SwitchRows.{run_of}
use Rattle.tclv_control.proofs.PlanLemmas.{keeps_under, error_under, plan_on}
use Rattle.tclv_control.proofs.SwitchLemmas.{chosen_is, switch_row}
use Rattle.tclv_control.proofs.switch_plans.plan_switch.Goals as goal

pub returns-in_err-plan-clause-answer : goal.returns-in_err-plan-clause-answer
returns-in_err-plan-clause-answer g c here w told =
    runs_as (switch_row c.args.hand_on c.args.machine.now.values.store.stack c.args.n (state_of c.args.machine.now w) c.requires.some c.requires.words)
    (then_stop _ (search rules) (c.in_err-plan.ensures.answer here w told))

pub returns-in_err-plan-clause-stack : goal.returns-in_err-plan-clause-stack
returns-in_err-plan-clause-stack g c =
    let stack = c.args.machine.now.values.store.stack in
    error_under (PlanOver (under c.args.n stack)) SwitchPlan (c.args.n - 1) c.args.n stack _ _ _ (omega arith) (search rules) c.in_err-plan.ensures.stack

pub returns-clause-answer : goal.returns-clause-answer
returns-clause-answer g c here w told =
    runs_as (switch_row c.args.hand_on c.args.machine.now.values.store.stack c.args.n (state_of c.args.machine.now w) c.requires.some c.requires.words)
    (bind_ok _ (c.in_ok-plan.ensures.answer here w told)
    (λ asked v e shown. runs_as (ap (λ b. done (run_of c.args.hand_on b) (state_of c.asked.new.machine v)) (chosen_is asked _ c.asked.new.machine.values.store.stack shown))
    (c.plan_body.ensures.answer here v e)))

pub returns-clause-stack : goal.returns-clause-stack
returns-clause-stack g c =
    let stack = c.args.machine.now.values.store.stack in
    plan_on (under c.args.n stack) c.asked.new.machine.values.store.stack c.plan_body.result c.plan_body.new.machine.values.store.stack
    (keeps_under (c.args.n - 1) c.args.n stack c.asked.new.machine.values.store.stack (omega arith) c.in_ok-plan.ensures.stack) c.plan_body.ensures.stack
