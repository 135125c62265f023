use Rattle.std.proofs.Common.{rules, refl, ap, ◌-◌}
use Rattle.tclv_value.specs.Stacks.{under}
use Rattle.tclv_engine.specs.State.{state_of}
use Rattle.tclv_engine.proofs.Binds.{runs_as}
use Rattle.tclv_engine.proofs.Leaves.{done_runs}
use Rattle.tclv_control.proofs.EachLemmas.{keeps_lowest}
use Rattle.tclv_control.proofs.PlanLemmas.{plan_on}
use Rattle.tclv_control.proofs.CatchLemmas.{catch_two, catch_three, catch_four, catch_refused}
use Rattle.tclv_control.proofs.catch_plans.plan_catch.Goals as goal

pub returns-in-2-clause-answer : goal.returns-in-2-clause-answer
returns-in-2-clause-answer g c here w told =
    runs_as (catch_two c.args.machine.now.values.store.stack c.args.n (state_of c.args.machine.now w) c.requires.words _ c.in-2.is (ap (λ l. l - c.args.n) c.height.ensures))
    (done_runs told refl refl)

pub returns-in-3-clause-answer : goal.returns-in-3-clause-answer
returns-in-3-clause-answer g c here w told =
    runs_as (catch_three c.args.machine.now.values.store.stack c.args.n (state_of c.args.machine.now w) c.requires.words _ c.in-3.is (ap (λ l. l - c.args.n) c.height.ensures))
    (c.plan_named.ensures.answer here w told)

pub returns-in-3-clause-stack : goal.returns-in-3-clause-stack
returns-in-3-clause-stack g c =
    let stack = c.args.machine.now.values.store.stack in
    plan_on (under c.args.n stack) stack c.plan_named.result c.plan_named.new.machine.values.store.stack (keeps_lowest stack stack c.args.n refl) c.plan_named.ensures.stack

pub returns-in-4-clause-answer : goal.returns-in-4-clause-answer
returns-in-4-clause-answer g c here w told =
    runs_as (catch_four c.args.machine.now.values.store.stack c.args.n (state_of c.args.machine.now w) c.requires.words _ c.in-4.is (ap (λ l. l - c.args.n) c.height.ensures))
    (c.plan_both.ensures.answer here w told)

pub returns-in-4-clause-stack : goal.returns-in-4-clause-stack
returns-in-4-clause-stack g c =
    let stack = c.args.machine.now.values.store.stack in
    plan_on (under c.args.n stack) stack c.plan_both.result c.plan_both.new.machine.values.store.stack (keeps_lowest stack stack c.args.n refl) c.plan_both.ensures.stack

pub returns-in_default-clause-answer : goal.returns-in_default-clause-answer
returns-in_default-clause-answer g c here w told =
    runs_as (catch_refused c.args.machine.now.values.store.stack c.args.n (state_of c.args.machine.now w) c.requires.words
    (λ e. search (rules, e, c.in_default)) (λ e. search (rules, e, c.in_default)) (λ e. search (rules, e, c.in_default)))
    (c.misused.ensures.answer here w told)
