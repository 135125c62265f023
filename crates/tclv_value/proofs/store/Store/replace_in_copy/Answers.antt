use Rattle.std.proofs.Common.{◌≡◌, ◌-◌, length, take, drop, Result, Ok, Err, ap, sym, subst, ◌∙◌, arith}
use Rattle.std.specs.Prelude.{OnErr}
use Rattle.tclv_heap.specs.Counters.{raised}
use Rattle.tclv_value.specs.Places.{id_at, places, IsPlaced, PutsId}
use Rattle.tclv_value.specs.Replacing.{Replaced}
use Rattle.tclv_value.proofs.ReplacePlaceLemmas.{Site, within, text_within, list_here, has_place_low, can_copy, copy_within, old_outside, placed3, copied_view, copied_listed, copied_elements, copied_new, copied_stats}
use Rattle.tclv_value.proofs.ViewLemmas.{named_id, under_there, kept_stack, kept_cells, stays_made}
use Rattle.tclv_value.proofs.store.Store.replace_in_copy.Goals as goal
use Rattle.tclv_value.proofs.store.Store.replace_in_copy.Goals.{After-object_at-id, After-top_objects-values, In_err-copy, After-replace_values, After-truncate, After-put_object-old}

id_is : (c : After-object_at-id) → c.object_at-id.result ≡ id_at c.self.inside.stack.items c.self.inside.cells.entries c.args.at
id_is c = c.object_at-id.ensures ∙ ap (λ xs. id_at xs c.self.inside.cells.entries c.args.at) c.as_slice.ensures.value

site : (c : After-object_at-id) → Site c.self.inside.heap.graph c.self.inside.heap.stats c.self.inside.stack.items c.self.inside.cells.entries c.object_at-id.result c.args.n c.args.at c.args.self.now
site c = record { view = c.self.view_is; placed = c.self.invariant; id_is = id_is c; room = c.requires.place; list = c.requires.list; shallow = c.requires.shallow }

values_is : (c : After-top_objects-values) → c.top_objects-values.result.now ≡ drop (length c.self.inside.stack.items - c.args.n) c.self.inside.stack.items
values_is c = c.top_objects-values.ensures ∙ ap (λ xs. drop (length xs - c.args.n) xs) c.as_slice-2.ensures.value

rest_is : (c : After-truncate) → c.truncate.new.self.items ≡ take (length c.self.inside.stack.items - c.args.n) c.self.inside.stack.items
rest_is c =
    let len : c.len.result ≡ length c.self.inside.stack.items = c.len.ensures ∙ sym c.as_slice.ensures.len ∙ ap length c.as_slice.ensures.value in
    c.truncate.ensures.items ∙ ap (λ k. take (k - c.args.n) c.self.inside.stack.items) len

pub object_at-id-requires : goal.object_at-id-requires
object_at-id-requires c = rw c.as_slice.ensures.value (named_id c.self.inside.heap.graph _ _ _ c.self.view_is c.args.at (under_there c.args.self.now c.args.n c.args.at c.requires.place))

pub top_objects-values-requires : goal.top_objects-values-requires
top_objects-values-requires c =
    let s = site (goal.at.top_objects-values-requires c).After-object_at-id in
    omega (arith, within _ _ _ _ _ _ _ _ s, ap length c.as_slice-2.ensures.value)

pub copy_with-requires-clause-list : goal.copy_with-requires-clause-list
copy_with-requires-clause-list c = list_here c.self.inside.heap.graph c.self.inside.heap.stats c.self.inside.stack.items c.self.inside.cells.entries c.object_at-id.result c.args.n c.args.at c.args.self.now (site (goal.at.copy_with-requires-clause-list c).After-object_at-id)

pub copy_with-requires-clause-within : goal.copy_with-requires-clause-within
copy_with-requires-clause-within c = text_within c.self.inside.heap.graph c.self.inside.heap.stats c.self.inside.stack.items c.self.inside.cells.entries c.object_at-id.result c.args.n c.args.at c.args.self.now (site (goal.at.copy_with-requires-clause-within c).After-object_at-id) c.args.to c.requires.within

on_err_any : {T E P : Type 0} (r : Result T E) → P → OnErr r P
on_err_any (Ok x) p = tt
on_err_any (Err e) p = p

same : (c : In_err-copy) → IsPlaced c.copy_with.new.heap.graph c.self.inside.stack.items c.self.inside.cells.entries
same c =
    let e = c.in_err-copy.ensures in
    record { sound = e.keeps.sound; closed = e.keeps.closed c.self.invariant.closed; holders = e.holders (places c.self.inside.stack.items c.self.inside.cells.entries) c.self.invariant.holders }

pub returns-in_err-copy-clause-kept : goal.returns-in_err-copy-clause-kept
returns-in_err-copy-clause-kept c =
    let a = same (goal.at.returns-in_err-copy-clause-kept c).In_err-copy in
    on_err_any c.from_residual.result (record {
      stack = kept_stack _ _ _ _ c.self.invariant a c.in_err-copy.ensures.keeps.says _ c.self.view_is;
      cells = kept_cells _ _ _ _ c.self.invariant a c.in_err-copy.ensures.keeps.says _ c.self.view_is;
      stays = stays_made _ _ _ _ c.self.invariant a c.in_err-copy.ensures.keeps.says _ c.self.view_is c.in_err-copy.ensures.texts;
    })

pub replace_values-requires-clause-can : goal.replace_values-requires-clause-can
replace_values-requires-clause-can c =
    let s = site (goal.at.replace_values-requires-clause-can c).After-object_at-id in
    rw (values_is (goal.at.replace_values-requires-clause-can c).After-top_objects-values) (can_copy c.self.inside.heap.graph c.self.inside.heap.stats c.self.inside.stack.items c.self.inside.cells.entries c.object_at-id.result c.args.n c.args.at c.args.self.now s c.copy_with.new.heap.graph c.in_ok-copy.copy c.in_ok-copy.ensures.copied)

pub replace_values-requires-clause-within : goal.replace_values-requires-clause-within
replace_values-requires-clause-within c ids is =
    let s = site (goal.at.replace_values-requires-clause-within c).After-object_at-id in
    let has = c.copy_with.ensures.elements in
    copy_within c.self.inside.heap.graph c.self.inside.heap.stats c.self.inside.stack.items c.self.inside.cells.entries c.object_at-id.result c.args.n c.args.at c.args.self.now s c.copy_with.new.heap.graph c.in_ok-copy.copy c.in_ok-copy.ensures.copied has.0 has.1 has.2 c.args.to c.requires.within ids is

done : (c : After-replace_values) → Replaced c.copy_with.new.heap.graph c.in_ok-copy.copy c.args.from c.args.to (drop (length c.self.inside.stack.items - c.args.n) c.self.inside.stack.items) c.replace_values.new.heap.graph
done c = subst (λ xs. Replaced c.copy_with.new.heap.graph c.in_ok-copy.copy c.args.from c.args.to xs c.replace_values.new.heap.graph) (values_is (goal.at.After-replace_values c).After-top_objects-values) c.replace_values.ensures.replaced

pub put_object-old-requires : goal.put_object-old-requires
put_object-old-requires c = rw (rest_is (goal.at.put_object-old-requires c).After-truncate) (has_place_low c.self.inside.heap.graph c.self.inside.heap.stats c.self.inside.stack.items c.self.inside.cells.entries c.object_at-id.result c.args.n c.args.at c.args.self.now (site (goal.at.put_object-old-requires c).After-object_at-id))

put : (c : After-put_object-old) → PutsId (take (length c.self.inside.stack.items - c.args.n) c.self.inside.stack.items) c.self.inside.cells.entries c.args.at c.in_ok-copy.copy c.put_object-old.new.stack.items c.put_object-old.new.cells.entries c.put_object-old.result
put c = subst (λ xs. PutsId xs c.self.inside.cells.entries c.args.at c.in_ok-copy.copy c.put_object-old.new.stack.items c.put_object-old.new.cells.entries c.put_object-old.result) (rest_is (goal.at.After-put_object-old c).After-truncate) c.put_object-old.ensures

pub release-requires : goal.release-requires
release-requires c =
    let s = site (goal.at.release-requires c).After-object_at-id in
    let d = done (goal.at.release-requires c).After-replace_values in
    let p = put (goal.at.release-requires c).After-put_object-old in
    old_outside c.self.inside.heap.graph c.self.inside.heap.stats c.self.inside.stack.items c.self.inside.cells.entries c.object_at-id.result c.args.n c.args.at c.args.self.now s c.copy_with.new.heap.graph c.in_ok-copy.copy c.in_ok-copy.ensures.copied c.replace_values.new.heap.graph c.args.from c.args.to d c.put_object-old.new.stack.items c.put_object-old.new.cells.entries c.put_object-old.result p

pub invariant_of-self-2 : goal.invariant_of-self-2
invariant_of-self-2 c =
    let s = site (goal.at.invariant_of-self-2 c).After-object_at-id in
    let d = done (goal.at.invariant_of-self-2 c).After-replace_values in
    let p = put (goal.at.invariant_of-self-2 c).After-put_object-old in
    placed3 c.self.inside.heap.graph c.self.inside.heap.stats c.self.inside.stack.items c.self.inside.cells.entries c.object_at-id.result c.args.n c.args.at c.args.self.now s c.copy_with.new.heap.graph c.in_ok-copy.copy c.in_ok-copy.ensures.copied c.replace_values.new.heap.graph c.args.from c.args.to d c.put_object-old.new.stack.items c.put_object-old.new.cells.entries c.put_object-old.result p c.release.new.self.graph c.release.ensures.released c.release.ensures.holders c.release.ensures.keeps

pub returns-clause-replaced : goal.returns-clause-replaced
returns-clause-replaced c =
    let s = site (goal.at.returns-clause-replaced c).After-object_at-id in
    let d = done (goal.at.returns-clause-replaced c).After-replace_values in
    let p = put (goal.at.returns-clause-replaced c).After-put_object-old in
    let has = c.copy_with.ensures.elements in
    copied_view c.self.inside.heap.graph c.self.inside.heap.stats c.self.inside.stack.items c.self.inside.cells.entries c.object_at-id.result c.args.n c.args.at c.args.self.now s c.copy_with.new.heap.graph c.in_ok-copy.copy c.in_ok-copy.ensures.copied c.replace_values.new.heap.graph c.args.from c.args.to d c.put_object-old.new.stack.items c.put_object-old.new.cells.entries c.put_object-old.result p c.release.new.self.graph c.release.ensures.released c.release.ensures.holders c.release.ensures.keeps has.0 has.1 has.2 c.release.new.self.stats

pub returns-clause-fresh : goal.returns-clause-fresh
returns-clause-fresh c =
    let s = site (goal.at.returns-clause-fresh c).After-object_at-id in
    let d = done (goal.at.returns-clause-fresh c).After-replace_values in
    let p = put (goal.at.returns-clause-fresh c).After-put_object-old in
    copied_new c.self.inside.heap.graph c.self.inside.heap.stats c.self.inside.stack.items c.self.inside.cells.entries c.object_at-id.result c.args.n c.args.at c.args.self.now s c.copy_with.new.heap.graph c.in_ok-copy.copy c.in_ok-copy.ensures.copied c.replace_values.new.heap.graph c.args.from c.args.to d c.put_object-old.new.stack.items c.put_object-old.new.cells.entries c.put_object-old.result p c.release.new.self.graph c.release.ensures.released c.release.ensures.holders c.release.ensures.keeps c.release.new.self.stats ∙ c.in_ok-copy.ensures.copied.fresh

pub returns-clause-listed : goal.returns-clause-listed
returns-clause-listed c =
    let s = site (goal.at.returns-clause-listed c).After-object_at-id in
    let d = done (goal.at.returns-clause-listed c).After-replace_values in
    let p = put (goal.at.returns-clause-listed c).After-put_object-old in
    copied_listed c.self.inside.heap.graph c.self.inside.heap.stats c.self.inside.stack.items c.self.inside.cells.entries c.object_at-id.result c.args.n c.args.at c.args.self.now s c.copy_with.new.heap.graph c.in_ok-copy.copy c.in_ok-copy.ensures.copied c.replace_values.new.heap.graph c.args.from c.args.to d c.put_object-old.new.stack.items c.put_object-old.new.cells.entries c.put_object-old.result p c.release.new.self.graph c.release.ensures.released c.release.ensures.holders c.release.ensures.keeps c.release.new.self.stats

pub returns-clause-elements : goal.returns-clause-elements
returns-clause-elements c =
    let s = site (goal.at.returns-clause-elements c).After-object_at-id in
    let d = done (goal.at.returns-clause-elements c).After-replace_values in
    let p = put (goal.at.returns-clause-elements c).After-put_object-old in
    copied_elements c.self.inside.heap.graph c.self.inside.heap.stats c.self.inside.stack.items c.self.inside.cells.entries c.object_at-id.result c.args.n c.args.at c.args.self.now s c.copy_with.new.heap.graph c.in_ok-copy.copy c.in_ok-copy.ensures.copied c.replace_values.new.heap.graph c.args.from c.args.to d c.put_object-old.new.stack.items c.put_object-old.new.cells.entries c.put_object-old.result p c.release.new.self.graph c.release.ensures.released c.release.ensures.holders c.release.ensures.keeps c.release.new.self.stats

pub returns-clause-stats : goal.returns-clause-stats
returns-clause-stats c ids is =
    let s = site (goal.at.returns-clause-stats c).After-object_at-id in
    ap (λ h. h.stats) c.release.ensures.rest ∙ ap (λ h. h.stats) c.replace_values.ensures.rest ∙ c.in_ok-copy.ensures.counted
    ∙ ap (λ k. record c.self.inside.heap.stats { copied = raised c.self.inside.heap.stats.copied k }) (copied_stats c.self.inside.heap.graph c.self.inside.heap.stats c.self.inside.stack.items c.self.inside.cells.entries c.object_at-id.result c.args.n c.args.at c.args.self.now s ids is)
    ∙ ap (λ v. record v.stats { copied = raised v.stats.copied (length ids) }) c.self.view_is
