use Rattle.std.proofs.Common.{◌≡◌, ◌++◌, ◌∷◌, [], ◌-◌, ◌<◌, length, take, drop, get_or, is_some, Result, Ok, Err, ap, sym, subst, ◌∙◌}
use Rattle.std.specs.Prelude.{OnOk}
use Rattle.tclv_heap.specs.Graph.{occurs, Takes}
use Rattle.tclv_heap.specs.Holders.{Passes}
use Rattle.tclv_value.specs.Forms.{form_table}
use Rattle.tclv_heap.specs.Graph.{form_in}
use Rattle.tclv_value.specs.Kept.{list_in, list_at}
use Rattle.tclv_value.specs.ListObjects.{SharesTop}
use Rattle.tclv_value.proofs.ViewLemmas.{same_view}
use Rattle.tclv_value.proofs.ListPlaceLemmas.{pushed_at, list_there, list_takes, list_placed, list_gathers, slice_end, not_shallow}
use Rattle.tclv_value.proofs.store.Store.push_list.Goals as goal
use Rattle.tclv_value.proofs.store.Store.push_list.Goals.{After-as_slice, In_default, In_ok-reserve, After-truncate}

low_is : (c : After-as_slice) → c.len.result ≡ length c.self.inside.stack.items
low_is c = c.len.ensures ∙ sym c.as_slice.ensures.len ∙ ap length c.as_slice.ensures.value

slice : (c : After-as_slice) → take (length c.as_slice.result.now - (c.len.result - c.args.n)) (drop (c.len.result - c.args.n) c.as_slice.result.now) ≡ drop (length c.self.inside.stack.items - c.args.n) c.self.inside.stack.items
slice c = slice_end c.as_slice.result.now (c.len.result - c.args.n) ∙ ap (drop (c.len.result - c.args.n)) c.as_slice.ensures.value ∙ ap (λ k. drop (k - c.args.n) c.self.inside.stack.items) (low_is c)

pub depth_over-requires : goal.depth_over-requires
depth_over-requires c p i =
    list_there c.self.inside.heap.graph c.self.inside.stack.items c.self.inside.cells.entries c.args.n c.args.self.now c.self.view_is c.requires c.self.invariant p
    (subst (λ xs. 0 < occurs p xs) (slice (goal.at.depth_over-requires c).After-as_slice) i)

on_ok_any : {T E P : Type 0} (r : Result T E) → P → OnOk r P
on_ok_any (Ok x) p = p
on_ok_any (Err e) p = tt

pub returns-in_default-clause-shares : goal.returns-in_default-clause-shares
unfolding SharesTop
returns-in_default-clause-shares c =
    let deep = c.in_default.ensures.none in
    let i = subst (λ xs. 0 < occurs (deep.0) xs) (slice (goal.at.returns-in_default-clause-shares c).After-as_slice) deep.1 in
    let not_so = not_shallow c.self.inside.heap.graph c.self.inside.stack.items c.self.inside.cells.entries c.args.n c.args.self.now c.self.view_is c.requires deep.0 i deep.2 in
    on_ok_any c.push_list_text.result (λ shallow. absurd (not_so shallow))

list_is : (c : In_ok-reserve) → c.in_ok-list.list.ids ≡ drop (length c.self.inside.stack.items - c.args.n) c.self.inside.stack.items
list_is c =
    c.in_ok-list.ensures ∙ slice_end c.as_slice-2.result.now (c.len.result - c.args.n) ∙ ap (drop (c.len.result - c.args.n)) c.as_slice-2.ensures.value
    ∙ ap (λ k. drop (k - c.args.n) c.self.inside.stack.items) (low_is (goal.at.In_ok-reserve c).After-as_slice)

pub make_form_object-requires-clause-takes : goal.make_form_object-requires-clause-takes
make_form_object-requires-clause-takes c =
    subst (Takes form_table.parts c.self.inside.heap.graph) (sym (list_is (goal.at.make_form_object-requires-clause-takes c).In_ok-reserve))
    (list_takes c.self.inside.heap.graph c.self.inside.stack.items c.self.inside.cells.entries c.args.n c.args.self.now c.self.view_is c.requires c.self.invariant)

passes : (c : After-truncate) → Passes form_table.parts c.self.inside.heap.graph (drop (length c.self.inside.stack.items - c.args.n) c.self.inside.stack.items) c.make_form_object.new.self.graph (c.in_ok-id.id ∷ [])
passes c = subst (λ xs. Passes form_table.parts c.self.inside.heap.graph xs c.make_form_object.new.self.graph (c.in_ok-id.id ∷ [])) (list_is (goal.at.After-truncate c).In_ok-reserve) c.in_ok-id.ensures.holders

rest_is : (c : After-truncate) → c.truncate.new.self.items ≡ take (length c.self.inside.stack.items - c.args.n) c.self.inside.stack.items
rest_is c =
    c.truncate.ensures.items ∙ ap (take (c.len.result - c.args.n)) c.reserve.ensures.items
    ∙ ap (λ k. take (k - c.args.n) c.self.inside.stack.items) (low_is (goal.at.After-truncate c).After-as_slice)

pub invariant_of-self-2 : goal.invariant_of-self-2
invariant_of-self-2 c =
    let a = (goal.at.invariant_of-self-2 c).After-truncate in
    rw (c.push_reserved.ensures.items, rest_is a)
    (list_placed c.self.inside.heap.graph c.self.inside.stack.items c.self.inside.cells.entries c.args.n c.args.self.now c.self.view_is c.requires c.self.invariant c.make_form_object.new.self.graph c.in_ok-id.id _ c.in_ok-id.ensures.made (passes a) c.make_form_object.ensures.keeps)

pub returns-clause-gathered : goal.returns-clause-gathered
returns-clause-gathered c =
    let a = (goal.at.returns-clause-gathered c).After-truncate in
    rw (c.push_reserved.ensures.items, rest_is a)
    (list_gathers c.self.inside.heap.graph c.self.inside.stack.items c.self.inside.cells.entries c.args.n c.args.self.now c.self.view_is c.requires c.self.invariant c.make_form_object.new.self.graph c.in_ok-id.id _ c.in_ok-id.ensures.made (passes a) c.make_form_object.ensures.keeps _
    (rw (← list_is (goal.at.After-truncate a).In_ok-reserve) c.in_ok-id.ensures.stands))

pub returns-clause-shares : goal.returns-clause-shares
unfolding SharesTop
returns-clause-shares c shallow =
    let a = (goal.at.returns-clause-shares c).After-truncate in
    let items = c.push_reserved.ensures.items ∙ ap (λ xs. xs ++ c.in_ok-id.id ∷ []) (rest_is a) in
    let len : length c.args.self.now.stack ≡ length c.self.inside.stack.items = same_view c.self.inside.heap.graph c.self.inside.stack.items c.self.inside.cells.entries c.args.self.now c.self.view_is in
    let here = ap (λ xs. get_or xs (length c.args.self.now.stack - c.args.n) 0) items ∙ pushed_at c.self.inside.stack.items c.args.n c.in_ok-id.id (length c.args.self.now.stack) len c.requires in
    (ap (λ o. is_some (list_at c.make_form_object.new.self.graph o)) here ∙ ap (λ s. is_some (list_in (form_in s))) c.in_ok-id.ensures.made.made.changed, ap (λ h. h.stats) c.make_form_object.ensures.rest ∙ ap (λ v. v.stats) c.self.view_is)
