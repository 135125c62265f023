use Rattle.std.proofs.Common.{rules, refl, ap, pos}
use Rattle.tclv_text.specs.Numbers.{whole_text}
use Rattle.tclv_engine.specs.Results.{ok, plain}
use Rattle.tclv_engine.specs.State.{state_of}
use Rattle.tclv_engine.proofs.Binds.{runs_as}
use Rattle.tclv_engine.proofs.Leaves.{memory_runs, value_runs}
use Rattle.tclv_engine.proofs.StackLemmas.{last-pushed}
use Rattle.tclv_engine.proofs.WordLemmas.{values_same}
use Rattle.tclv_interp.proofs.proc_info.info_level.Goals as goal

pub returns-in_err-counted-clause-answer : goal.returns-in_err-counted-clause-answer
returns-in_err-counted-clause-answer c here w told = memory_runs (search rules) told refl

pub returns-clause-answer : goal.returns-clause-answer
returns-clause-answer c here w told =
    let old = c.args.machine.now in
    runs_as (ap (λ k. ok (whole_text (pos k)) (state_of old w)) c.level-level.ensures)
    (value_runs {a = plain (whole_text (pos c.level-level.result))} old told (values_same old c.counted.new.values c.counted.ensures.same)
    (last-pushed _ _ _ c.in_ok-counted.ensures.pushed, refl))
