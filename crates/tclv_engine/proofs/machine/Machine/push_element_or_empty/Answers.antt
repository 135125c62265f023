use Rattle.std.proofs.Common.{rules, ap, sym, ◌∙◌, ◌≡◌, ◌<◌, ◌≤◌, ◌++◌, ◌∷◌, [], length, get_or, subst, refl, List, ℕ}
use Rattle.std.proofs.lemmas.Str.{chars-nil}
use Rattle.std.proofs.lemmas.List.{get_or_past}
use Rattle.tclv_engine.specs.State.{state_of}
use Rattle.tclv_engine.specs.Results.{done}
use Rattle.tclv_engine.specs.Answers.{Pushes}
use Rattle.tclv_engine.specs.ListAssignment.{listed}
use Rattle.tclv_engine.proofs.Binds.{runs_as}
use Rattle.tclv_engine.proofs.Leaves.{memory_runs, value_runs, from_same}
use Rattle.tclv_engine.proofs.StackLemmas.{last-pushed}
use Rattle.tclv_engine.proofs.ListLemmas.{one_pushed, none_pushed}
use Rattle.tclv_engine.proofs.machine.Machine.push_element_or_empty.Goals as goal

pub returns-in_err-found-clause-answer : goal.returns-in_err-found-clause-answer
returns-in_err-found-clause-answer g c here w told = memory_runs (search rules) told c.push_element.ensures.same.events

pub returns-clause-answer : goal.returns-clause-answer
returns-clause-answer g c here w told =
    let t = get_or c.args.self.now.values.store.stack c.args.list [] in
    let past : length (listed t) ≤ c.args.i = search rules in
    from_same c.args.self.now c.push_element.new.self (done (get_or (listed t) c.args.i [])) c.push_element.ensures.same
    (runs_as (ap (λ x. done x (state_of c.push_element.new.self w)) (chars-nil ∙ sym (get_or_past (listed t) c.args.i [] past))) (c.push_text.ensures.answer here w told))

pub returns-clause-stack : goal.returns-clause-stack
returns-clause-stack g c =
    let stack = c.args.self.now.values.store.stack in
    let t = get_or stack c.args.list [] in
    let past : length (listed t) ≤ c.args.i = search rules in
    let same = none_pushed t stack c.push_element.new.self.values.store.stack c.args.i past c.in_ok-found.ensures.pushed in
    let P : List ℕ → Type 0 = λ x. Pushes x c.push_element.new.self.values.store.stack c.push_text.result c.push_text.new.self.values.store.stack in
    let Q : List (List ℕ) → Type 0 = λ s. Pushes (get_or (listed t) c.args.i []) s c.push_text.result c.push_text.new.self.values.store.stack in
    subst Q same (subst P (chars-nil ∙ sym (get_or_past (listed t) c.args.i [] past)) c.push_text.ensures.stack)

pub returns-then-found-clause-answer : goal.returns-then-found-clause-answer
returns-then-found-clause-answer g c here w told =
    let stack = c.args.self.now.values.store.stack in
    let t = get_or stack c.args.list [] in
    let inside : c.args.i < length (listed t) = search rules in
    value_runs c.args.self.now told c.push_element.ensures.same (last-pushed stack _ _ (one_pushed t t stack c.push_element.new.self.values.store.stack c.args.i refl inside c.in_ok-found.ensures.pushed))

pub returns-then-found-clause-stack : goal.returns-then-found-clause-stack
returns-then-found-clause-stack g c =
    let stack = c.args.self.now.values.store.stack in
    let t = get_or stack c.args.list [] in
    let inside : c.args.i < length (listed t) = search rules in
    one_pushed t t stack c.push_element.new.self.values.store.stack c.args.i refl inside c.in_ok-found.ensures.pushed
