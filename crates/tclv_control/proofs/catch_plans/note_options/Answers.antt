use Rattle.std.proofs.Common.{refl, sym, ap}
use Rattle.tclv_text.specs.Quotes.{list_text}
use Rattle.tclv_engine.specs.State.{state_of}
use Rattle.tclv_engine.proofs.Binds.{runs_as}
use Rattle.tclv_engine.proofs.Leaves.{done_runs}
use Rattle.tclv_control.specs.CatchRows.{note}
use Rattle.tclv_control.specs.Outcomes.{option_words}
use Rattle.tclv_control.specs.OutcomeSteps.{options_ended}
use Rattle.tclv_control.proofs.catch_plans.note_options.Goals as goal

pub returns-in-Some-clause-answer : goal.returns-in-Some-clause-answer
returns-in-Some-clause-answer g c here w told =
    runs_as (ap (λ x. note x (list_text (option_words (options_ended c.args.ended))) (state_of c.args.machine.now w)) (sym c.in-Some.is)) (c.note_dict.ensures.answer here w told)

pub returns-in-None-clause-answer : goal.returns-in-None-clause-answer
returns-in-None-clause-answer g c here w told =
    runs_as (ap (λ x. note x (list_text (option_words (options_ended c.args.ended))) (state_of c.args.machine.now w)) (sym c.in-None.is)) (done_runs told refl tt)
