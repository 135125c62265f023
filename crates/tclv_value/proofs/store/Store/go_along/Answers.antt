use Rattle.std.proofs.Common.{◌≡◌, ◌-◌, length, get_or, ap, sym, subst, ◌∙◌, arith}
use Rattle.std.proofs.lemmas.List.{get_or_default}
use Rattle.tclv_value.specs.Places.{text_of, id_at}
use Rattle.tclv_value.specs.View.{View}
use Rattle.tclv_value.specs.Ways.{Goes, text_along}
use Rattle.tclv_value.proofs.SetPlaceLemmas.{filled_at}
use Rattle.tclv_value.proofs.ViewLemmas.{named_id, under_there}
use Rattle.tclv_value.proofs.WayPlaceLemmas.{can_go, placed_on, view_on, same_on, listed_on}
use Rattle.tclv_value.proofs.store.Store.go_along.Goals as goal
use Rattle.tclv_value.proofs.store.Store.go_along.Goals.{After-object_at-id, After-index-value, After-change_along}

id_is : (c : After-object_at-id) → c.object_at-id.result ≡ id_at c.self.inside.stack.items c.self.inside.cells.entries c.args.at
id_is c = c.object_at-id.ensures ∙ ap (λ xs. id_at xs c.self.inside.cells.entries c.args.at) c.as_slice.ensures.value

value_is : (c : After-index-value) → c.index-value.result.now ≡ get_or c.self.inside.stack.items (length c.self.inside.stack.items - 1) 0
value_is c =
    let len = c.len.ensures ∙ sym c.as_slice.ensures.len ∙ ap length c.as_slice.ensures.value in
    let filled = filled_at c.self.inside.heap.graph c.self.inside.stack.items c.self.inside.cells.entries c.args.at c.args.self.now c.self.view_is c.requires.place in
    c.index-value.ensures ∙ get_or_default c.self.inside.stack.items (c.len.result - 1) c.index-value.result.now 0 (omega (arith, filled, len)) ∙ ap (λ n. get_or c.self.inside.stack.items (n - 1) 0) len

pub object_at-id-requires : goal.object_at-id-requires
object_at-id-requires c = rw c.as_slice.ensures.value (named_id c.self.inside.heap.graph _ _ _ c.self.view_is c.args.at (under_there c.args.self.now 1 c.args.at c.requires.place))

pub change_along-requires-clause-can : goal.change_along-requires-clause-can
change_along-requires-clause-can c =
    let a = (goal.at.change_along-requires-clause-can c).After-object_at-id in
    let b = (goal.at.change_along-requires-clause-can c).After-index-value in
    rw c.as_slice-2.ensures.value (can_go c.self.inside.heap.graph c.self.inside.stack.items c.self.inside.cells.entries c.index-value.result.now c.object_at-id.result c.args.at c.args.self.now c.self.view_is c.self.invariant (id_is a) (value_is b) c.requires.place _ _ c.requires.opens)

done : (c : After-change_along) → Goes c.self.inside.heap.graph c.object_at-id.result c.index-value.result.now 50 (text_along c.self.inside.heap.graph c.object_at-id.result c.args.way.places.items (text_of c.self.inside.heap.graph c.index-value.result.now)) c.change_along.new.heap.graph
done c = subst (λ ks. Goes c.self.inside.heap.graph c.object_at-id.result c.index-value.result.now 50 (text_along c.self.inside.heap.graph c.object_at-id.result ks (text_of c.self.inside.heap.graph c.index-value.result.now)) c.change_along.new.heap.graph) c.as_slice-2.ensures.value c.change_along.ensures.changed

pub invariant_of-self : goal.invariant_of-self
invariant_of-self c =
    let a = (goal.at.invariant_of-self c).After-object_at-id in
    let b = (goal.at.invariant_of-self c).After-index-value in
    placed_on c.self.inside.heap.graph c.self.inside.stack.items c.self.inside.cells.entries c.index-value.result.now c.object_at-id.result c.args.at c.args.self.now c.self.view_is c.self.invariant (id_is a) (value_is b) c.requires.place _ _ c.requires.opens c.change_along.new.heap.graph (done (goal.at.invariant_of-self c).After-change_along)

pub returns-clause-changed : goal.returns-clause-changed
returns-clause-changed c =
    let a = (goal.at.returns-clause-changed c).After-object_at-id in
    let b = (goal.at.returns-clause-changed c).After-index-value in
    view_on c.self.inside.heap.graph c.self.inside.stack.items c.self.inside.cells.entries c.index-value.result.now c.object_at-id.result c.args.at c.args.self.now c.self.view_is c.self.invariant (id_is a) (value_is b) c.requires.place _ _ c.requires.opens c.change_along.new.heap.graph (done (goal.at.returns-clause-changed c).After-change_along) c.change_along.new.heap.stats

pub returns-clause-same : goal.returns-clause-same
returns-clause-same c =
    let a = (goal.at.returns-clause-same c).After-object_at-id in
    let b = (goal.at.returns-clause-same c).After-index-value in
    same_on c.self.inside.heap.graph c.self.inside.stack.items c.self.inside.cells.entries c.index-value.result.now c.object_at-id.result c.args.at c.args.self.now c.self.view_is c.self.invariant (id_is a) (value_is b) c.requires.place _ _ c.requires.opens c.change_along.new.heap.graph (done (goal.at.returns-clause-same c).After-change_along) c.change_along.new.heap.stats

pub returns-clause-listed : goal.returns-clause-listed
returns-clause-listed c =
    let a = (goal.at.returns-clause-listed c).After-object_at-id in
    let b = (goal.at.returns-clause-listed c).After-index-value in
    listed_on c.self.inside.heap.graph c.self.inside.stack.items c.self.inside.cells.entries c.index-value.result.now c.object_at-id.result c.args.at c.args.self.now c.self.view_is c.self.invariant (id_is a) (value_is b) c.requires.place _ _ c.requires.opens c.change_along.new.heap.graph (done (goal.at.returns-clause-listed c).After-change_along) c.change_along.new.heap.stats

pub returns-clause-stats : goal.returns-clause-stats
returns-clause-stats c = ap (λ h. h.stats) c.change_along.ensures.rest ∙ ap (λ (v : View). v.stats) c.self.view_is
