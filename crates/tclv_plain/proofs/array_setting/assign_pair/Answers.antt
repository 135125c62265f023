use Rattle.std.proofs.Common.{rules, ◌≡◌, ◌∙◌, ◌+◌, ◌++◌, List, ap, sym, subst, get_or, [], ◌∷◌, Err}
use Rattle.tclv_engine.specs.Answers.{KeepsStack, last_of}
use Rattle.tclv_engine.specs.State.{Text, state_of}
use Rattle.tclv_engine.specs.ListAssignment.{listed}
use Rattle.tclv_engine.proofs.Binds.{runs_as}
use Rattle.tclv_engine.proofs.Leaves.{memory_runs, from_same}
use Rattle.tclv_engine.proofs.Handed.{push-memory}
use Rattle.tclv_engine.proofs.StackLemmas.{last-pushed}
use Rattle.tclv_engine.proofs.ListLemmas.{list_below, list_stays}
use Rattle.tclv_engine.proofs.WordLemmas.{same_then}
use Rattle.tclv_plain.specs.ArrayRows.{assign_element}
use Rattle.tclv_plain.proofs.ElementLemmas.{two_above, two_length, index_there, taken_back}
use Rattle.tclv_plain.proofs.array_setting.assign_pair.Goals as goal

pub returns-in_err-push_element_or_empty-clause-answer : goal.returns-in_err-push_element_or_empty-clause-answer
returns-in_err-push_element_or_empty-clause-answer g c here w told =
    memory_runs (search rules ∙ ap Err (push-memory (get_or (listed (get_or c.args.machine.now.values.store.stack c.args.list [])) c.args.i []) c.args.machine.now.values.store.stack c.in_err-push_element_or_empty.field-0.0 c.push_element_or_empty.new.self.values.store.stack c.in_err-push_element_or_empty.ensures.stack)) told c.in_err-push_element_or_empty.ensures.same.events

pub push_element_or_empty-requires-2-clause-list : goal.push_element_or_empty-requires-2-clause-list
push_element_or_empty-requires-2-clause-list g c =
    let stack = c.args.machine.now.values.store.stack in
    list_stays _ _ (list_below stack (get_or (listed (get_or stack c.args.list [])) c.args.i [] ∷ []) c.push_element_or_empty.new.self.values.store.stack c.args.list c.in_ok-push_element_or_empty.ensures.stack c.requires.place) c.requires.list

pub returns-in_err-push_element_or_empty-2-clause-answer : goal.returns-in_err-push_element_or_empty-2-clause-answer
returns-in_err-push_element_or_empty-2-clause-answer g c here w told =
    let one = c.push_element_or_empty.new.self.values.store.stack in
    memory_runs (search rules ∙ ap Err (push-memory (get_or (listed (get_or one c.args.list [])) c.args.next []) one c.in_err-push_element_or_empty-2.field-0.0 c.push_element_or_empty-2.new.self.values.store.stack c.in_err-push_element_or_empty-2.ensures.stack)) told
    (c.in_err-push_element_or_empty-2.ensures.same.events ∙ c.in_ok-push_element_or_empty.ensures.same.events)

pub assign_element-requires-clause-index : goal.assign_element-requires-clause-index
assign_element-requires-clause-index g c =
    let stack = c.args.machine.now.values.store.stack in
    two_length stack c.push_element_or_empty.new.self.values.store.stack c.push_element_or_empty-2.new.self.values.store.stack _ _ c.in_ok-push_element_or_empty.ensures.stack c.in_ok-push_element_or_empty-2.ensures.stack
    ∙ ap (λ k. k + 2) (sym c.height-index.ensures)

pub returns-clause-answer : goal.returns-clause-answer
returns-clause-answer g c here w told =
    let old = c.args.machine.now in
    let one = c.push_element_or_empty.new.self in
    let two = c.push_element_or_empty-2.new.self in
    let stack = old.values.store.stack in
    let s1 = one.values.store.stack in
    let s2 = two.values.store.stack in
    let texts = listed (get_or stack c.args.list []) in
    let name = get_or stack c.args.array [] in
    let index = get_or texts c.args.i [] in
    let value = get_or texts c.args.next [] in
    let a = c.in_ok-push_element_or_empty.ensures.stack in
    let below : get_or s1 c.args.list [] ≡ get_or stack c.args.list [] = list_below stack (index ∷ []) s1 c.args.list a c.requires.place in
    let b : s2 ≡ s1 ++ value ∷ [] = c.in_ok-push_element_or_empty-2.ensures.stack ∙ ap (λ t. s1 ++ get_or (listed t) c.args.next [] ∷ []) below in
    let all = two_above stack s1 s2 index value a b in
    let array_is : get_or s2 c.args.array [] ≡ name = list_below stack (index ∷ value ∷ []) s2 c.args.array all c.requires.array in
    let index_is = index_there stack s1 s2 index value a b c.height-index.result c.height-index.ensures in
    from_same old two (assign_element name index value) (same_then old one two c.in_ok-push_element_or_empty.ensures.same c.in_ok-push_element_or_empty-2.ensures.same)
    (runs_as
    (ap (λ t. assign_element t (get_or s2 c.height-index.result []) (last_of s2) (state_of two w)) array_is
    ∙ ap (λ t. assign_element name t (last_of s2) (state_of two w)) index_is
    ∙ ap (λ t. assign_element name index t (state_of two w)) (last-pushed s1 s2 value b))
    (c.assign_element.ensures.answer here w told))

pub returns-clause-stack : goal.returns-clause-stack
returns-clause-stack g c =
    let stack = c.args.machine.now.values.store.stack in
    let P : List Text → Type 0 = λ s. KeepsStack s c.assign_element.result c.assign_element.new.machine.values.store.stack in
    subst P (taken_back stack c.push_element_or_empty.new.self.values.store.stack c.push_element_or_empty-2.new.self.values.store.stack _ _ c.in_ok-push_element_or_empty.ensures.stack c.in_ok-push_element_or_empty-2.ensures.stack c.height-index.result c.height-index.ensures)
    c.assign_element.ensures.stack
