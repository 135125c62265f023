use Rattle.std.proofs.Common.{refl}
use Rattle.tclv_engine.specs.State.{state_of}
use Rattle.tclv_engine.proofs.Binds.{runs_as}
use Rattle.tclv_engine.proofs.Leaves.{done_runs, budget_runs}
use Rattle.tclv_engine.proofs.UnitLemmas.{no_unit, some_unit}
use Rattle.tclv_engine.proofs.machine.Machine.take_unit.Goals as goal

pub returns-then-self-eq0-clause-answer : goal.returns-then-self-eq0-clause-answer
returns-then-self-eq0-clause-answer g c here w told = runs_as (no_unit (state_of c.args.self.now w) c.if-self-eq0.true) (budget_runs told refl)

pub returns-clause-answer : goal.returns-clause-answer
returns-clause-answer g c here w told = runs_as (some_unit (state_of c.args.self.now w) c.if-self-eq0.false) (done_runs told refl refl)
