use Rattle.std.proofs.Common.{◌≡◌, ◌-◌, length, take, drop, ap, sym, subst, ◌∙◌, arith}
use Rattle.tclv_value.specs.Places.{id_at}
use Rattle.tclv_value.specs.Replacing.{Replaced}
use Rattle.tclv_value.proofs.ReplacePlaceLemmas.{Site, within, within_ids, text_within, list_here, can, placed2, replaced_view, replaced_list, same_object, listed2}
use Rattle.tclv_value.proofs.ViewLemmas.{named_id, under_there}
use Rattle.tclv_value.proofs.store.Store.replace_in_place.Goals as goal
use Rattle.tclv_value.proofs.store.Store.replace_in_place.Goals.{After-object_at-id, After-top_objects-values, After-replace_values, After-truncate}

id_is : (c : After-object_at-id) → c.object_at-id.result ≡ id_at c.self.inside.stack.items c.self.inside.cells.entries c.args.at
id_is c = c.object_at-id.ensures ∙ ap (λ xs. id_at xs c.self.inside.cells.entries c.args.at) c.as_slice.ensures.value

site : (c : After-object_at-id) → Site c.self.inside.heap.graph c.self.inside.heap.stats c.self.inside.stack.items c.self.inside.cells.entries c.object_at-id.result c.args.n c.args.at c.args.self.now
site c = record { view = c.self.view_is; placed = c.self.invariant; id_is = id_is c; room = c.requires.place; list = c.requires.list; shallow = c.requires.shallow }

values_is : (c : After-top_objects-values) → c.top_objects-values.result.now ≡ drop (length c.self.inside.stack.items - c.args.n) c.self.inside.stack.items
values_is c = c.top_objects-values.ensures ∙ ap (λ xs. drop (length xs - c.args.n) xs) c.as_slice-2.ensures.value

rest_is : (c : After-truncate) → c.truncate.new.self.items ≡ take (length c.self.inside.stack.items - c.args.n) c.self.inside.stack.items
rest_is c =
    let len : c.len.result ≡ length c.self.inside.stack.items = c.len.ensures ∙ sym c.as_slice.ensures.len ∙ ap length c.as_slice.ensures.value in
    c.truncate.ensures.items ∙ ap (λ k. take (k - c.args.n) c.self.inside.stack.items) len

pub object_at-id-requires : goal.object_at-id-requires
object_at-id-requires c = rw c.as_slice.ensures.value (named_id c.self.inside.heap.graph _ _ _ c.self.view_is c.args.at (under_there c.args.self.now c.args.n c.args.at c.requires.place))

pub top_objects-values-requires : goal.top_objects-values-requires
top_objects-values-requires c =
    let s = site (goal.at.top_objects-values-requires c).After-object_at-id in
    omega (arith, within _ _ _ _ _ _ _ _ s, ap length c.as_slice-2.ensures.value)

pub next_with-requires-clause-list : goal.next_with-requires-clause-list
next_with-requires-clause-list c = list_here c.self.inside.heap.graph c.self.inside.heap.stats c.self.inside.stack.items c.self.inside.cells.entries c.object_at-id.result c.args.n c.args.at c.args.self.now (site (goal.at.next_with-requires-clause-list c).After-object_at-id)

pub next_with-requires-clause-within : goal.next_with-requires-clause-within
next_with-requires-clause-within c = text_within c.self.inside.heap.graph c.self.inside.heap.stats c.self.inside.stack.items c.self.inside.cells.entries c.object_at-id.result c.args.n c.args.at c.args.self.now (site (goal.at.next_with-requires-clause-within c).After-object_at-id) c.args.to c.requires.within

pub replace_values-requires-clause-can : goal.replace_values-requires-clause-can
replace_values-requires-clause-can c =
    let s = site (goal.at.replace_values-requires-clause-can c).After-object_at-id in
    rw (values_is (goal.at.replace_values-requires-clause-can c).After-top_objects-values) (can c.self.inside.heap.graph c.self.inside.heap.stats c.self.inside.stack.items c.self.inside.cells.entries c.object_at-id.result c.args.n c.args.at c.args.self.now s c.requires.alone)

pub replace_values-requires-clause-within : goal.replace_values-requires-clause-within
replace_values-requires-clause-within c ids is =
    let s = site (goal.at.replace_values-requires-clause-within c).After-object_at-id in
    within_ids _ _ ids c.args.to (text_within c.self.inside.heap.graph c.self.inside.heap.stats c.self.inside.stack.items c.self.inside.cells.entries c.object_at-id.result c.args.n c.args.at c.args.self.now s c.args.to c.requires.within) (c.next_with.ensures.elements ids is)

done : (c : After-replace_values) → Replaced c.self.inside.heap.graph c.object_at-id.result c.args.from c.args.to (drop (length c.self.inside.stack.items - c.args.n) c.self.inside.stack.items) c.replace_values.new.heap.graph
done c = subst (λ xs. Replaced c.self.inside.heap.graph c.object_at-id.result c.args.from c.args.to xs c.replace_values.new.heap.graph) (values_is (goal.at.After-replace_values c).After-top_objects-values) c.replace_values.ensures.replaced

pub invariant_of-self : goal.invariant_of-self
invariant_of-self c =
    let s = site (goal.at.invariant_of-self c).After-object_at-id in
    rw (rest_is (goal.at.invariant_of-self c).After-truncate) (placed2 c.self.inside.heap.graph c.self.inside.heap.stats c.self.inside.stack.items c.self.inside.cells.entries c.object_at-id.result c.args.n c.args.at c.args.self.now s c.requires.alone c.replace_values.new.heap.graph c.args.from c.args.to (done (goal.at.invariant_of-self c).After-replace_values) c.next_with.ensures.elements)

pub returns-clause-replaced : goal.returns-clause-replaced
returns-clause-replaced c =
    let s = site (goal.at.returns-clause-replaced c).After-object_at-id in
    rw (rest_is (goal.at.returns-clause-replaced c).After-truncate) (replaced_view c.self.inside.heap.graph c.self.inside.heap.stats c.self.inside.stack.items c.self.inside.cells.entries c.object_at-id.result c.args.n c.args.at c.args.self.now s c.requires.alone c.replace_values.new.heap.graph c.args.from c.args.to (done (goal.at.returns-clause-replaced c).After-replace_values) c.next_with.ensures.elements c.replace_values.new.heap.stats)

pub returns-clause-same : goal.returns-clause-same
returns-clause-same c =
    let s = site (goal.at.returns-clause-same c).After-object_at-id in
    rw (rest_is (goal.at.returns-clause-same c).After-truncate) (same_object c.self.inside.heap.graph c.self.inside.heap.stats c.self.inside.stack.items c.self.inside.cells.entries c.object_at-id.result c.args.n c.args.at c.args.self.now s c.requires.alone c.replace_values.new.heap.graph c.args.from c.args.to (done (goal.at.returns-clause-same c).After-replace_values) c.next_with.ensures.elements c.replace_values.new.heap.stats)

pub returns-clause-listed : goal.returns-clause-listed
returns-clause-listed c =
    let s = site (goal.at.returns-clause-listed c).After-object_at-id in
    rw (rest_is (goal.at.returns-clause-listed c).After-truncate) (listed2 c.self.inside.heap.graph c.self.inside.heap.stats c.self.inside.stack.items c.self.inside.cells.entries c.object_at-id.result c.args.n c.args.at c.args.self.now s c.requires.alone c.replace_values.new.heap.graph c.args.from c.args.to (done (goal.at.returns-clause-listed c).After-replace_values) c.next_with.ensures.elements c.replace_values.new.heap.stats)

pub returns-clause-elements : goal.returns-clause-elements
returns-clause-elements c =
    let s = site (goal.at.returns-clause-elements c).After-object_at-id in
    rw (rest_is (goal.at.returns-clause-elements c).After-truncate) (replaced_list c.self.inside.heap.graph c.self.inside.heap.stats c.self.inside.stack.items c.self.inside.cells.entries c.object_at-id.result c.args.n c.args.at c.args.self.now s c.requires.alone c.replace_values.new.heap.graph c.args.from c.args.to (done (goal.at.returns-clause-elements c).After-replace_values) c.next_with.ensures.elements c.replace_values.new.heap.stats)
