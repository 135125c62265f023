use Rattle.std.proofs.Common.{◌≡◌, ◌-◌, ◌≤◌, ◌<◌, length, get_or, ap, sym, subst, ◌∙◌, arith}
use Rattle.std.proofs.lemmas.List.{get_or_default}
use Rattle.tclv_value.specs.Places.{id_at, IsPlaced}
use Rattle.tclv_value.proofs.AnswerLemmas.{on_ok}
use Rattle.tclv_value.specs.Setting.{ListChanged}
use Rattle.tclv_value.proofs.ViewLemmas.{named_id, under_there}
use Rattle.tclv_value.proofs.SetPlaceLemmas.{by_result, filled_at, can_change, within_here, some_text, placed_in, known_in, listed_in, same_in}
use Rattle.tclv_value.proofs.store.Store.change_alone.Goals as goal
use Rattle.tclv_value.proofs.store.Store.change_alone.Goals.{After-object_at-id, After-index-value}

id_is : (c : After-object_at-id) → c.object_at-id.result ≡ id_at c.self.inside.stack.items c.self.inside.cells.entries c.args.at
id_is c = c.object_at-id.ensures ∙ ap (λ xs. id_at xs c.self.inside.cells.entries c.args.at) c.as_slice.ensures.value

value_is : (c : After-index-value) → c.index-value.result.now ≡ get_or c.self.inside.stack.items (length c.self.inside.stack.items - 1) 0
value_is c =
    let len = c.len.ensures ∙ sym c.as_slice.ensures.len ∙ ap length c.as_slice.ensures.value in
    let filled = filled_at c.self.inside.heap.graph c.self.inside.stack.items c.self.inside.cells.entries c.args.at c.args.self.now c.self.view_is c.requires.place in
    c.index-value.ensures ∙ get_or_default c.self.inside.stack.items (c.len.result - 1) c.index-value.result.now 0 (omega (arith, filled, len)) ∙ ap (λ n. get_or c.self.inside.stack.items (n - 1) 0) len

pub object_at-id-requires : goal.object_at-id-requires
object_at-id-requires c = rw c.as_slice.ensures.value (named_id c.self.inside.heap.graph _ _ _ c.self.view_is c.args.at (under_there c.args.self.now 1 c.args.at c.requires.place))

pub change_in_place-requires-clause-can : goal.change_in_place-requires-clause-can
change_in_place-requires-clause-can c =
    let a = (goal.at.change_in_place-requires-clause-can c).After-object_at-id in
    let b = (goal.at.change_in_place-requires-clause-can c).After-index-value in
    can_change c.self.inside.heap.graph c.self.inside.stack.items c.self.inside.cells.entries c.index-value.result.now c.object_at-id.result c.args.at c.args.self.now c.self.view_is c.self.invariant (id_is a) (value_is b) c.requires.place c.requires.alone c.requires.list c.requires.shallow

pub change_in_place-requires-clause-within : goal.change_in_place-requires-clause-within
change_in_place-requires-clause-within c =
    let a = (goal.at.change_in_place-requires-clause-within c).After-object_at-id in
    let b = (goal.at.change_in_place-requires-clause-within c).After-index-value in
    within_here c.self.inside.heap.graph c.self.inside.stack.items c.self.inside.cells.entries c.index-value.result.now c.object_at-id.result c.args.at c.args.self.now c.self.view_is c.self.invariant (id_is a) (value_is b) c.requires.place (λ ts. c.args.place ≤ length ts) c.requires.within

pub invariant_of-self : goal.invariant_of-self
invariant_of-self c =
    let a = (goal.at.invariant_of-self c).After-object_at-id in
    let b = (goal.at.invariant_of-self c).After-index-value in
    by_result c.change_in_place.result c.change_in_place.ensures.changed c.change_in_place.ensures.refused
    (λ known. let some = some_text _ (λ t. ListChanged c.self.inside.heap.graph c.object_at-id.result t c.change_in_place.new.heap.graph) _ known in placed_in c.self.inside.heap.graph c.self.inside.stack.items c.self.inside.cells.entries c.index-value.result.now c.object_at-id.result c.args.at c.args.self.now c.self.view_is c.self.invariant (id_is a) (value_is b) c.requires.place c.requires.alone c.change_in_place.new.heap.graph some.0 some.1)
    (λ same. subst (λ h. IsPlaced h.graph c.self.inside.stack.items c.self.inside.cells.entries) (sym same) c.self.invariant)

pub returns-clause-changed : goal.returns-clause-changed
returns-clause-changed c =
    let a = (goal.at.returns-clause-changed c).After-object_at-id in
    let b = (goal.at.returns-clause-changed c).After-index-value in
    on_ok c.change_in_place.result (λ known. known_in c.self.inside.heap.graph c.self.inside.stack.items c.self.inside.cells.entries c.index-value.result.now c.object_at-id.result c.args.at c.args.self.now c.self.view_is c.self.invariant (id_is a) (value_is b) c.requires.place c.requires.alone c.change_in_place.new.heap.graph _ c.args.place known) c.change_in_place.ensures.changed

pub returns-clause-same : goal.returns-clause-same
returns-clause-same c =
    let a = (goal.at.returns-clause-same c).After-object_at-id in
    let b = (goal.at.returns-clause-same c).After-index-value in
    same_in c.self.inside.heap.graph c.self.inside.stack.items c.self.inside.cells.entries c.index-value.result.now c.object_at-id.result c.args.at c.args.self.now c.self.view_is c.self.invariant (id_is a) (value_is b) c.requires.place c.requires.alone c.change_in_place.new.heap.graph c.change_in_place.new.heap.stats

pub returns-clause-listed : goal.returns-clause-listed
returns-clause-listed c =
    let a = (goal.at.returns-clause-listed c).After-object_at-id in
    let b = (goal.at.returns-clause-listed c).After-index-value in
    on_ok c.change_in_place.result (λ known. let some = some_text _ (λ t. ListChanged c.self.inside.heap.graph c.object_at-id.result t c.change_in_place.new.heap.graph) _ known in listed_in c.self.inside.heap.graph c.self.inside.stack.items c.self.inside.cells.entries c.index-value.result.now c.object_at-id.result c.args.at c.args.self.now c.self.view_is c.self.invariant (id_is a) (value_is b) c.requires.place c.requires.alone c.change_in_place.new.heap.graph some.0 some.1 c.change_in_place.new.heap.stats) c.change_in_place.ensures.changed

pub returns-clause-memory : goal.returns-clause-memory
returns-clause-memory c within =
    let a = (goal.at.returns-clause-memory c).After-object_at-id in
    let b = (goal.at.returns-clause-memory c).After-index-value in
    c.change_in_place.ensures.memory (within_here c.self.inside.heap.graph c.self.inside.stack.items c.self.inside.cells.entries c.index-value.result.now c.object_at-id.result c.args.at c.args.self.now c.self.view_is c.self.invariant (id_is a) (value_is b) c.requires.place (λ ts. c.args.place < length ts) within)
