use Rattle.std.proofs.Common.{refl, sym, ap}
use Rattle.tclv_engine.specs.State.{state_of}
use Rattle.tclv_engine.specs.Answers.{last_of}
use Rattle.tclv_engine.specs.Plans.{placed}
use Rattle.tclv_engine.proofs.Binds.{runs_as}
use Rattle.tclv_engine.proofs.Leaves.{done_runs}
use Rattle.tclv_control.specs.TryRows.{started_by}
use Rattle.tclv_control.specs.TrySteps.{left_of}
use Rattle.tclv_control.proofs.try_plans.plan_started.Goals as goal

pub returns-in-None-clause-answer : goal.returns-in-None-clause-answer
returns-in-None-clause-answer g c here w told =
    let stack = c.args.machine.now.values.store.stack in
    runs_as (ap (λ l. started_by (placed stack c.args.script) c.args.finally (left_of l (last_of stack)) (state_of c.args.machine.now w)) (sym c.in-None.is)) (done_runs told refl refl)

pub returns-in-Some-clause-answer : goal.returns-in-Some-clause-answer
returns-in-Some-clause-answer g c here w told =
    let stack = c.args.machine.now.values.store.stack in
    runs_as (ap (λ l. started_by (placed stack c.args.script) c.args.finally (left_of l (last_of stack)) (state_of c.args.machine.now w)) (sym c.in-Some.is)) (c.finish_handler.ensures.answer here w told)
