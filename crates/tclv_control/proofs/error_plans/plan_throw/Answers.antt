use Rattle.std.proofs.Common.{rules, refl, ap, ◌-◌}
use Rattle.tclv_value.specs.Stacks.{under}
use Rattle.tclv_engine.specs.State.{state_of}
use Rattle.tclv_engine.proofs.Binds.{runs_as}
use Rattle.tclv_control.proofs.EachLemmas.{keeps_lowest}
use Rattle.tclv_control.proofs.PlanLemmas.{plan_on}
use Rattle.tclv_control.proofs.ErrorLemmas.{throw_three, throw_refused}
use Rattle.tclv_control.proofs.error_plans.plan_throw.Goals as goal

pub returns-in-3-clause-answer : goal.returns-in-3-clause-answer
returns-in-3-clause-answer g c here w told =
    runs_as (throw_three g.row.K.Denot c.args.machine.now.values.store.stack c.args.n (state_of c.args.machine.now w) c.requires.words _ c.in-3.is (ap (λ l. l - c.args.n) c.height.ensures))
    (c.plan_thrown.ensures.answer here w told)

pub returns-in-3-clause-stack : goal.returns-in-3-clause-stack
returns-in-3-clause-stack g c =
    let stack = c.args.machine.now.values.store.stack in
    plan_on (under c.args.n stack) stack c.plan_thrown.result c.plan_thrown.new.machine.values.store.stack (keeps_lowest stack stack c.args.n refl) c.plan_thrown.ensures.stack

pub returns-in_default-clause-answer : goal.returns-in_default-clause-answer
returns-in_default-clause-answer g c here w told =
    runs_as (throw_refused g.row.K.Denot c.args.machine.now.values.store.stack c.args.n (state_of c.args.machine.now w) c.requires.words (λ e. search (rules, e, c.in_default)))
    (c.misused.ensures.answer here w told)
