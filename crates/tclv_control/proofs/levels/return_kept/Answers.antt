use Rattle.std.proofs.Common.{rules, ap, refl, ◌∙◌}
use Rattle.tclv_engine.specs.State.{state_of}
use Rattle.tclv_engine.specs.Answers.{last_of}
use Rattle.tclv_engine.proofs.Binds.{runs_as}
use Rattle.tclv_engine.proofs.Leaves.{memory_runs}
use Rattle.tclv_control.specs.Levels.{returned}
use Rattle.tclv_control.proofs.levels.return_kept.Goals as goal

pub returns-in_err-options-clause-answer : goal.returns-in_err-options-clause-answer
returns-in_err-options-clause-answer g c here w told = memory_runs (search rules) told refl

pub returns-clause-answer : goal.returns-clause-answer
returns-clause-answer g c here w told =
    let old = c.args.machine.now in
    runs_as (ap (λ os. returned (last_of old.values.store.stack) os (state_of old w)) (c.all.ensures ∙ c.in_ok-options.ensures))
    (c.returned.ensures.answer here w told)
