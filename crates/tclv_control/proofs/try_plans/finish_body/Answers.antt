use Rattle.std.proofs.Common.{rules, arith, refl, ap, sym, ◌∙◌, ◌-◌, ◌<◌, ◌≡◌, [], get_or, length}
use Rattle.tclv_value.specs.Stacks.{under}
use Rattle.tclv_ctl.specs.declared.handlers.TryPlan.{TryPlan}
use Rattle.tclv_engine.specs.State.{state_of}
use Rattle.tclv_engine.specs.Answers.{last_of}
use Rattle.tclv_engine.specs.Plans.{PlanOver, concluded}
use Rattle.tclv_engine.proofs.Binds.{runs_as, bind_ok, then_stop}
use Rattle.tclv_engine.proofs.ListLemmas.{list_below}
use Rattle.tclv_engine.proofs.StackLemmas.{keeps_on}
use Rattle.tclv_control.specs.TrySteps.{planned}
use Rattle.tclv_control.proofs.EachLemmas.{keeps_lowest}
use Rattle.tclv_control.proofs.PlanLemmas.{plan_on}
use Rattle.tclv_control.proofs.CatchLemmas.{error_over}
use Rattle.tclv_control.proofs.ReturnLemmas.{below_top}
use Rattle.tclv_control.proofs.TryLemmas.{planned_over, call_above}
use Rattle.tclv_control.proofs.try_plans.finish_body.Goals as goal

pub returns-in_err-plan-clause-answer : goal.returns-in_err-plan-clause-answer
returns-in_err-plan-clause-answer g c here w told = then_stop _ (search rules) (c.in_err-plan.ensures.answer here w told)

pub returns-in_err-plan-clause-stack : goal.returns-in_err-plan-clause-stack
returns-in_err-plan-clause-stack g c =
    let stack = c.args.machine.now.values.store.stack in
    error_over (PlanOver (under 1 stack)) TryPlan (under 1 stack) stack _ _ _ (keeps_lowest stack stack 1 refl) (search rules) c.in_err-plan.ensures.stack

pub returns-clause-answer : goal.returns-clause-answer
returns-clause-answer g c here w told =
    let stack = c.args.machine.now.values.store.stack in
    let mid = c.asked_again.new.machine.values.store.stack in
    let below : c.height-text.result - 1 < length stack = omega (arith, c.requires, c.height-text.ensures) in
    let text : get_or mid (c.height-text.result - 1) [] ≡ last_of stack = list_below stack _ mid (c.height-text.result - 1) c.in_ok-plan.ensures.kept below ∙ ap (λ n. get_or stack (n - 1) []) c.height-text.ensures in
    bind_ok _ (c.in_ok-plan.ensures.answer here w told)
    (λ said v e shown. runs_as
    (ap (λ t. planned mid c.in_ok-plan.plan (concluded c.args.ended t) (state_of c.asked_again.new.machine v)) text
    ∙ planned_over said c.in_ok-plan.plan _ mid (concluded c.args.ended (last_of stack)) (state_of c.asked_again.new.machine v) c.in_ok-plan.ensures.kept shown)
    (c.plan_said.ensures.answer here v e))

pub returns-clause-stack : goal.returns-clause-stack
returns-clause-stack g c =
    let stack = c.args.machine.now.values.store.stack in
    let mid = c.asked_again.new.machine.values.store.stack in
    let keeps = keeps_on (under 1 stack) stack (under 1 mid) (keeps_lowest stack stack 1 refl) (below_top stack mid (call_above stack mid c.args.call.now c.args.words.now c.in_ok-plan.ensures.kept)) in
    plan_on (under 1 stack) (under 1 mid) c.plan_said.result c.plan_said.new.machine.values.store.stack keeps c.plan_said.ensures.stack
