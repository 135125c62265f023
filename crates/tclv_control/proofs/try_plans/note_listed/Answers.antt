use Rattle.std.proofs.Common.{rules, refl, ap, ◌∙◌, ◌≡◌, ◌++◌, ◌∷◌, [], get_or}
use Rattle.std.specs.Prelude.{slice_get}
use Rattle.tclv_text.specs.Quotes.{list_text}
use Rattle.tclv_engine.specs.State.{state_of}
use Rattle.tclv_engine.specs.Answers.{Keeps, last_of}
use Rattle.tclv_engine.specs.Plans.{placed}
use Rattle.tclv_engine.specs.ListAssignment.{listed}
use Rattle.tclv_engine.proofs.Binds.{runs_as, bind_ok, then_stop}
use Rattle.tclv_engine.proofs.Leaves.{memory_runs, from_same}
use Rattle.tclv_engine.proofs.ListLemmas.{list_below}
use Rattle.tclv_engine.proofs.StackLemmas.{keeps_on, last-pushed}
use Rattle.tclv_engine.proofs.WordLemmas.{values_same}
use Rattle.tclv_control.specs.CatchRows.{note}
use Rattle.tclv_control.specs.Outcomes.{option_words}
use Rattle.tclv_control.specs.TryRows.{note_both}
use Rattle.tclv_control.proofs.CatchLemmas.{one_above, words_over, error_over}
use Rattle.tclv_control.proofs.TryLemmas.{kept_text}
use Rattle.tclv_control.proofs.try_plans.note_listed.Goals as goal

pub returns-in_err-push_copy-clause-answer : goal.returns-in_err-push_copy-clause-answer
returns-in_err-push_copy-clause-answer g c here w told = memory_runs (search rules) told refl

pub returns-in_err-note_element-clause-answer : goal.returns-in_err-note_element-clause-answer
returns-in_err-note_element-clause-answer g c here w told =
    let old = c.args.machine.now.values.store.stack in
    let one = record c.args.machine.now { values = c.push_copy.new.self } in
    let pushed = c.in_ok-push_copy.ensures.pushed in
    let names : placed one.values.store.stack c.args.names ≡ placed old c.args.names = list_below old _ one.values.store.stack c.args.names pushed c.requires.place in
    from_same c.args.machine.now one (note_both (listed (placed old c.args.names)) (placed old c.args.text) c.args.options.now) (values_same c.args.machine.now c.push_copy.new.self c.in_ok-push_copy.ensures.same)
    (then_stop _ (search rules)
    (runs_as
    (ap (λ t. note (slice_get (listed t) 0) (last_of one.values.store.stack) (state_of one w)) names
    ∙ ap (λ v. note (slice_get (listed (placed old c.args.names)) 0) v (state_of one w)) (last-pushed old one.values.store.stack _ pushed))
    (c.in_err-note_element.ensures.answer here w told)))

pub returns-in_err-note_element-clause-stack : goal.returns-in_err-note_element-clause-stack
returns-in_err-note_element-clause-stack g c =
    let old = c.args.machine.now.values.store.stack in
    let one = c.push_copy.new.self.store.stack in
    error_over (λ t now. Keeps old now) (Unit {0}) old one _ _ _ (one_above old one _ c.in_ok-push_copy.ensures.pushed) (search rules) c.in_err-note_element.ensures.stack

pub returns-in_err-push_dict-clause-answer : goal.returns-in_err-push_dict-clause-answer
returns-in_err-push_dict-clause-answer g c here w told =
    let old = c.args.machine.now.values.store.stack in
    let one = record c.args.machine.now { values = c.push_copy.new.self } in
    let pushed = c.in_ok-push_copy.ensures.pushed in
    let names : placed one.values.store.stack c.args.names ≡ placed old c.args.names = list_below old _ one.values.store.stack c.args.names pushed c.requires.place in
    from_same c.args.machine.now one (note_both (listed (placed old c.args.names)) (placed old c.args.text) c.args.options.now) (values_same c.args.machine.now c.push_copy.new.self c.in_ok-push_copy.ensures.same)
    (bind_ok _
    (runs_as
    (ap (λ t. note (slice_get (listed t) 0) (last_of one.values.store.stack) (state_of one w)) names
    ∙ ap (λ v. note (slice_get (listed (placed old c.args.names)) 0) v (state_of one w)) (last-pushed old one.values.store.stack _ pushed))
    (c.in_ok-note_element.ensures.answer here w told))
    (λ t v e shown. memory_runs (search rules) e c.in_err-push_dict.ensures.same.events))

pub returns-clause-answer : goal.returns-clause-answer
returns-clause-answer g c here w told =
    let old = c.args.machine.now.values.store.stack in
    let one = record c.args.machine.now { values = c.push_copy.new.self } in
    let two = c.note_element.new.machine in
    let three = c.push_dict.new.machine in
    let value = list_text (option_words c.args.options.now) in
    let pushed = c.in_ok-push_copy.ensures.pushed in
    let names : placed one.values.store.stack c.args.names ≡ placed old c.args.names = list_below old _ one.values.store.stack c.args.names pushed c.requires.place in
    let keeps : Keeps old two.values.store.stack = keeps_on old one.values.store.stack two.values.store.stack (one_above old one.values.store.stack _ pushed) c.in_ok-note_element.ensures.stack in
    let more = c.in_ok-push_dict.ensures.pushed in
    let again : placed three.values.store.stack c.args.names ≡ placed old c.args.names =
    kept_text old three.values.store.stack c.args.names (keeps_on old two.values.store.stack three.values.store.stack keeps (one_above two.values.store.stack three.values.store.stack _ more)) c.requires.place in
    from_same c.args.machine.now one (note_both (listed (placed old c.args.names)) (placed old c.args.text) c.args.options.now) (values_same c.args.machine.now c.push_copy.new.self c.in_ok-push_copy.ensures.same)
    (bind_ok _
    (runs_as
    (ap (λ t. note (slice_get (listed t) 0) (last_of one.values.store.stack) (state_of one w)) names
    ∙ ap (λ v. note (slice_get (listed (placed old c.args.names)) 0) v (state_of one w)) (last-pushed old one.values.store.stack _ pushed))
    (c.in_ok-note_element.ensures.answer here w told))
    (λ t v e shown. from_same two three (note (slice_get (listed (placed old c.args.names)) 1) value) c.in_ok-push_dict.ensures.same
    (runs_as
    (ap (λ x. note (slice_get (listed x) 1) (last_of three.values.store.stack) (state_of three v)) again
    ∙ ap (λ x. note (slice_get (listed (placed old c.args.names)) 1) x (state_of three v)) (last-pushed two.values.store.stack three.values.store.stack _ more ∙ ap (λ os. list_text (option_words os)) c.all.ensures))
    (c.note_element-2.ensures.answer here v e))))

pub returns-clause-stack : goal.returns-clause-stack
returns-clause-stack g c =
    let old = c.args.machine.now.values.store.stack in
    let one = c.push_copy.new.self.store.stack in
    let two = c.note_element.new.machine.values.store.stack in
    let three = c.push_dict.new.machine.values.store.stack in
    let keeps : Keeps old two = keeps_on old one two (one_above old one _ c.in_ok-push_copy.ensures.pushed) c.in_ok-note_element.ensures.stack in
    words_over old three c.note_element-2.result c.note_element-2.new.machine.values.store.stack (keeps_on old two three keeps (one_above two three _ c.in_ok-push_dict.ensures.pushed)) c.note_element-2.ensures.stack
