use Rattle.std.proofs.Common.{◌≡◌, ◌≤◌, ◌+◌, ◌-◌, length, take, get_or, IsSome, ap, sym, subst, ◌∙◌, arith}
use Rattle.std.specs.List.{All}
use Rattle.std.proofs.lemmas.List.{get_or_default}
use Rattle.tclv_heap.specs.Graph.{at, text_in}
use Rattle.tclv_value.specs.Places.{id_at}
use Rattle.tclv_value.specs.Stacks.{top}
use Rattle.tclv_value.specs.Ways.{LeadsOpen}
use Rattle.tclv_value.proofs.OpenLemmas.{if_missing}
use Rattle.tclv_value.proofs.OpenPlaceLemmas.{open_made, open_leads}
use Rattle.tclv_value.proofs.ViewLemmas.{named_id, under_there, same_view}
use Rattle.tclv_value.proofs.WayLemmas.{if_found}
use Rattle.tclv_value.proofs.WayPlaceLemmas.{under_high, indices_there, indices_some, id_there, value_there, found_view}
use Rattle.tclv_value.proofs.store.Store.way_of.Goals as goal
use Rattle.tclv_value.proofs.store.Store.way_of.Goals.{After-object_at-id, After-index-value, After-index_objects-indices}

id_is : (c : After-object_at-id) → c.object_at-id.result ≡ id_at c.self.inside.stack.items c.self.inside.cells.entries c.args.at
id_is c = c.object_at-id.ensures ∙ ap (λ xs. id_at xs c.self.inside.cells.entries c.args.at) c.as_slice.ensures.value

high : (c : After-object_at-id) → c.args.path + 1 ≤ length c.self.inside.stack.items
high c = omega (arith, under_high c.args.self.now (c.args.path + 1) c.args.at c.requires.place, same_view c.self.inside.heap.graph c.self.inside.stack.items c.self.inside.cells.entries c.args.self.now c.self.view_is)

value_is : (c : After-index-value) → c.index-value.result.now ≡ get_or c.self.inside.stack.items (length c.self.inside.stack.items - 1) 0
value_is c =
    let len = c.len.ensures ∙ sym c.as_slice.ensures.len ∙ ap length c.as_slice.ensures.value in
    c.index-value.ensures ∙ get_or_default c.self.inside.stack.items (c.len.result - 1) c.index-value.result.now 0 (omega (arith, high (goal.at.After-index-value c).After-object_at-id, len)) ∙ ap (λ n. get_or c.self.inside.stack.items (n - 1) 0) len

indices_is : (c : After-index_objects-indices) → c.index_objects-indices.result.now ≡ take c.args.path (top (c.args.path + 1) c.self.inside.stack.items)
indices_is c = c.index_objects-indices.ensures ∙ ap (λ xs. take c.args.path (top (c.args.path + 1) xs)) c.as_slice-2.ensures.value

pub object_at-id-requires : goal.object_at-id-requires
object_at-id-requires c = rw c.as_slice.ensures.value (named_id c.self.inside.heap.graph _ _ _ c.self.view_is c.args.at (under_there c.args.self.now (c.args.path + 1) c.args.at c.requires.place))

pub index_objects-indices-requires : goal.index_objects-indices-requires
index_objects-indices-requires c = rw c.as_slice-2.ensures.value (high (goal.at.index_objects-indices-requires c).After-object_at-id)

pub find_way-requires-clause-id : goal.find_way-requires-clause-id
find_way-requires-clause-id c =
    let a = (goal.at.find_way-requires-clause-id c).After-object_at-id in
    let b = (goal.at.find_way-requires-clause-id c).After-index-value in
    id_there c.self.inside.heap.graph c.self.inside.stack.items c.self.inside.cells.entries c.index-value.result.now c.object_at-id.result c.args.at c.args.self.now c.self.view_is c.self.invariant (id_is a) (value_is b) c.args.path c.requires.place

pub find_way-requires-clause-indices : goal.find_way-requires-clause-indices
find_way-requires-clause-indices c =
    let i = (goal.at.find_way-requires-clause-indices c).After-index_objects-indices in
    rw (indices_is i) (indices_there c.self.inside.heap.graph c.self.inside.stack.items c.self.inside.cells.entries c.args.path c.self.invariant)

pub find_way-requires-clause-some : goal.find_way-requires-clause-some
find_way-requires-clause-some c =
    let a = (goal.at.find_way-requires-clause-some c).After-object_at-id in
    let i = (goal.at.find_way-requires-clause-some c).After-index_objects-indices in
    rw (indices_is i) (indices_some c.self.inside.stack.items c.args.path c.requires.path (high a))

pub find_way-requires-clause-value : goal.find_way-requires-clause-value
find_way-requires-clause-value c =
    let a = (goal.at.find_way-requires-clause-value c).After-object_at-id in
    let b = (goal.at.find_way-requires-clause-value c).After-index-value in
    value_there c.self.inside.heap.graph c.self.inside.stack.items c.self.inside.cells.entries c.index-value.result.now c.object_at-id.result c.args.at c.args.self.now c.self.view_is c.self.invariant (id_is a) (value_is b) c.args.path c.requires.place

pub returns-clause-way : goal.returns-clause-way
returns-clause-way c =
    let a = (goal.at.returns-clause-way c).After-object_at-id in
    let b = (goal.at.returns-clause-way c).After-index-value in
    let i = (goal.at.returns-clause-way c).After-index_objects-indices in
    if_found c.find_way.result (λ way found. found_view c.self.inside.heap.graph c.self.inside.stack.items c.self.inside.cells.entries c.index-value.result.now c.object_at-id.result c.args.at c.args.self.now c.self.view_is c.self.invariant (id_is a) (value_is b) c.args.path c.requires.place way.next way.places.items c.index_objects-indices.result.now (indices_is i) found) c.find_way.ensures.way

pub returns-clause-none : goal.returns-clause-none
returns-clause-none c =
    let a = (goal.at.returns-clause-none c).After-object_at-id in
    let b = (goal.at.returns-clause-none c).After-index-value in
    let i = (goal.at.returns-clause-none c).After-index_objects-indices in
    if_missing c.find_way.result (λ none opens. none
    (subst (λ xs. All (λ o. IsSome (text_in (at c.self.inside.heap.graph o))) xs) (sym (indices_is i)) (open_made c.self.inside.heap.graph c.self.inside.stack.items c.self.inside.cells.entries c.index-value.result.now c.object_at-id.result c.args.at c.args.self.now c.self.view_is c.self.invariant (id_is a) (value_is b) c.args.path c.requires.place opens))
    (subst (LeadsOpen c.self.inside.heap.graph c.index-value.result.now 50 c.object_at-id.result) (sym (indices_is i)) (open_leads c.self.inside.heap.graph c.self.inside.stack.items c.self.inside.cells.entries c.index-value.result.now c.object_at-id.result c.args.at c.args.self.now c.self.view_is c.self.invariant (id_is a) (value_is b) c.args.path c.requires.place opens))) c.find_way.ensures.none
