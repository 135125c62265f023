use Rattle.std.proofs.Common.{rules, arith, sym, ◌<◌, ◌≡◌}
use Rattle.tclv_value.specs.Stacks.{under}
use Rattle.tclv_engine.specs.State.{state_of}
use Rattle.tclv_engine.proofs.Binds.{runs_as}
use Rattle.tclv_engine.proofs.StackLemmas.{keeps_all}
use Rattle.tclv_control.proofs.PlanLemmas.{keeps_under, plan_on}
use Rattle.tclv_control.proofs.UplevelLemmas.{uplevel_refused, uplevel_one}
use Rattle.tclv_control.proofs.level_plans.plan_uplevel.Goals as goal

pub returns-in-1-clause-answer : goal.returns-in-1-clause-answer
returns-in-1-clause-answer g c here w told =
    runs_as (uplevel_refused {K = g.row.K.Denot} c.args.hand_on c.args.machine.now.values.store.stack c.args.n (state_of c.args.machine.now w) c.requires.words c.in-1.is)
    (c.misused.ensures.answer here w told)

pub returns-in-2-clause-answer : goal.returns-in-2-clause-answer
returns-in-2-clause-answer g c here w told =
    runs_as (uplevel_one {K = g.row.K.Denot} c.args.hand_on c.args.machine.now.values.store.stack c.args.n (state_of c.args.machine.now w) c.requires.words c.in-2.is)
    (c.run_outside.ensures.answer here w told)

pub returns-in-2-clause-stack : goal.returns-in-2-clause-stack
returns-in-2-clause-stack g c =
    let stack = c.args.machine.now.values.store.stack in
    plan_on (under c.args.n stack) (under 1 stack) c.run_outside.result c.run_outside.new.machine.values.store.stack
    (keeps_under 1 c.args.n stack (under 1 stack) c.requires.some (keeps_all (under 1 stack))) c.run_outside.ensures.stack
