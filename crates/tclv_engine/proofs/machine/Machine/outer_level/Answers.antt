use Rattle.std.proofs.Common.{rules, sym, refl, ◌∙◌}
use Rattle.tclv_engine.specs.State.{state_of}
use Rattle.tclv_engine.proofs.Binds.{runs_as}
use Rattle.tclv_engine.proofs.Leaves.{done_runs, raise_runs}
use Rattle.tclv_engine.proofs.LinkLemmas.{no_caller, caller_level, bad_one}
use Rattle.tclv_engine.proofs.machine.Machine.outer_level.Goals as goal

pub returns-then-level-eq0-clause-answer : goal.returns-then-level-eq0-clause-answer
returns-then-level-eq0-clause-answer g c here w told =
    runs_as (no_caller (state_of c.args.self.now w) c.level-level.result c.level-level.ensures (search rules))
    (raise_runs c.args.self.now told c.raise.ensures.same (bad_one c.raise.new.self.values.store.stack c.raise.result c.raise.ensures.raises))

pub returns-clause-answer : goal.returns-clause-answer
returns-clause-answer g c here w told =
    runs_as (caller_level (state_of c.args.self.now w) c.level-level.result c.level-level.ensures (λ e. search (rules, e)))
    (done_runs told refl refl)
