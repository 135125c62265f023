use Rattle.std.proofs.Common.{rules, ap}
use Rattle.tclv_value.specs.Stacks.{top, under}
use Rattle.tclv_engine.specs.State.{state_of}
use Rattle.tclv_engine.proofs.Binds.{runs_as}
use Rattle.tclv_engine.proofs.Leaves.{memory_runs, from_same}
use Rattle.tclv_control.specs.ReturnRows.{result_of}
use Rattle.tclv_control.specs.ReturnSteps.{outcome_asked}
use Rattle.tclv_control.proofs.PlanLemmas.{plan_on}
use Rattle.tclv_control.proofs.ReturnLemmas.{below_top}
use Rattle.tclv_control.proofs.return_plans.plan_asked.Goals as goal

pub returns-in_err-push_result-clause-answer : goal.returns-in_err-push_result-clause-answer
returns-in_err-push_result-clause-answer g c here w told = memory_runs (search rules) told c.in_err-push_result.ensures.same.events

pub returns-clause-answer : goal.returns-clause-answer
returns-clause-answer g c here w told =
    let mid = c.push_result.new.machine in
    let text = result_of (top c.args.n c.args.machine.now.values.store.stack) in
    from_same c.args.machine.now mid (outcome_asked c.args.ret.now text) c.in_ok-push_result.ensures.same
    (runs_as (ap (λ t. outcome_asked c.args.ret.now t (state_of mid w)) c.in_ok-push_result.ensures.shown) (c.conclude.ensures.answer here w told))

pub returns-clause-stack : goal.returns-clause-stack
returns-clause-stack g c =
    let mid = c.push_result.new.machine.values.store.stack in
    let base = under c.args.n c.args.machine.now.values.store.stack in
    plan_on base (under 1 mid) c.conclude.result c.conclude.new.machine.values.store.stack (below_top base mid c.in_ok-push_result.ensures.stack) c.conclude.ensures.stack
