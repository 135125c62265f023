use Rattle.std.proofs.Common.{rules, ap, subst, ◌-◌, ◌∙◌, arith, List}
use Rattle.tclv_value.specs.Stacks.{top, under}
use Rattle.tclv_ctl.specs.declared.returns.Ret.{Ret}
use Rattle.tclv_engine.specs.State.{Text, state_of}
use Rattle.tclv_engine.specs.Answers.{Leaves}
use Rattle.tclv_engine.specs.Plans.{PlanOver}
use Rattle.tclv_engine.proofs.Binds.{runs_as, bind_ok, then_stop}
use Rattle.tclv_engine.proofs.StackLemmas.{keeps_all}
use Rattle.tclv_control.specs.ReturnRows.{result_of}
use Rattle.tclv_control.specs.ReturnSteps.{outcome_asked}
use Rattle.tclv_control.proofs.PlanLemmas.{keeps_under, error_under, plan_on}
use Rattle.tclv_control.proofs.ReturnLemmas.{outcome_is, return_row}
use Rattle.tclv_control.proofs.return_plans.plan_return.Goals as goal

pub returns-in_err-ret-clause-answer : goal.returns-in_err-ret-clause-answer
returns-in_err-ret-clause-answer g c here w told =
    runs_as (return_row c.args.machine.now.values.store.stack c.args.n (state_of c.args.machine.now w) c.requires.some c.requires.words)
    (then_stop _ (search rules) (c.in_err-ret.ensures.answer here w told))

pub returns-in_err-ret-clause-stack : goal.returns-in_err-ret-clause-stack
returns-in_err-ret-clause-stack g c =
    let stack = c.args.machine.now.values.store.stack in
    error_under (PlanOver (under c.args.n stack)) Ret (c.args.n - 1) c.args.n stack _ _ _ (omega arith) (search rules) c.in_err-ret.ensures.stack

pub returns-clause-answer : goal.returns-clause-answer
returns-clause-answer g c here w told =
    runs_as (return_row c.args.machine.now.values.store.stack c.args.n (state_of c.args.machine.now w) c.requires.some c.requires.words)
    (bind_ok _ (c.in_ok-ret.ensures.answer here w told)
    (λ r v e shown. runs_as
    (ap (λ s. outcome_asked c.in_ok-ret.ret (result_of (top (c.args.n - 1) s)) (state_of c.asked.new.machine v)) c.in_ok-ret.ensures.kept
    ∙ outcome_is r c.in_ok-ret.ret (result_of (top (c.args.n - 1) c.args.machine.now.values.store.stack)) (state_of c.asked.new.machine v) shown)
    (c.plan_asked.ensures.answer here v e)))

pub returns-clause-stack : goal.returns-clause-stack
returns-clause-stack g c =
    let stack = c.args.machine.now.values.store.stack in
    let now = c.plan_asked.new.machine.values.store.stack in
    let m = c.args.n - 1 in
    let P : List Text → Type 0 = λ s. Leaves (PlanOver (under m s)) (under m s) c.plan_asked.result now in
    plan_on (under c.args.n stack) (under m stack) c.plan_asked.result now (keeps_under m c.args.n stack (under m stack) (omega arith) (keeps_all (under m stack))) (subst P c.in_ok-ret.ensures.kept c.plan_asked.ensures.stack)
