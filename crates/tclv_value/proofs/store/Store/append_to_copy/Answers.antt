use Rattle.std.proofs.Common.{◌≡◌, ◌++◌, ◌∷◌, [], Some, IsSome, is_some, Result, Ok, Err, ap, sym, subst, ◌∙◌}
use Rattle.std.specs.Prelude.{OnErr}
use Rattle.std.specs.Option.{option_to_list}
use Rattle.tclv_heap.specs.Graph.{at}
use Rattle.tclv_value.specs.Kept.{list_in, list_at}
use Rattle.tclv_value.specs.Places.{id_at, places, view_of, IsPlaced}
use Rattle.std.proofs.Common.{length, map}
use Rattle.std.proofs.lemmas.List.{length-map}
use Rattle.tclv_heap.specs.Graph.{form_parts}
use Rattle.tclv_text.specs.Elements.{elements}
use Rattle.tclv_value.specs.Forms.{parts_of}
use Rattle.tclv_value.specs.Places.{text_of}
use Rattle.tclv_value.specs.Setting.{copied_more}
use Rattle.tclv_value.specs.View.{id_of, text_at}
use Rattle.tclv_value.proofs.AppendLemmas.{list_parts}
use Rattle.tclv_value.proofs.ElementLemmas.{known_elements}
use Rattle.tclv_value.specs.ListObjects.{IsListAt}
use Rattle.tclv_value.proofs.ViewLemmas.{named_id, id_of_is, under_there, kept_stack, kept_cells, stays_made}
use Rattle.tclv_value.proofs.AppendPlaceLemmas.{has2, text_here}
use Rattle.tclv_value.proofs.CopyPlaceLemmas.{copied_list, can_copy, old_outside, placed3, copied_view}
use Rattle.tclv_value.proofs.store.Store.append_to_copy.Goals as goal
use Rattle.tclv_value.proofs.store.Store.append_to_copy.Goals.{After-object_at-id, In_err-copy, In-Some}

id_is : (c : After-object_at-id) → c.object_at-id.result ≡ id_at c.self.inside.stack.items c.self.inside.cells.entries c.args.at
id_is c = c.object_at-id.ensures ∙ ap (λ xs. id_at xs c.self.inside.cells.entries c.args.at) c.as_slice.ensures.value

pub object_at-id-requires : goal.object_at-id-requires
object_at-id-requires c = rw c.as_slice.ensures.value (named_id c.self.inside.heap.graph _ _ _ c.self.view_is c.args.at (under_there c.args.self.now 1 c.args.at c.requires.place))

pub copy_list-requires-clause-list : goal.copy_list-requires-clause-list
copy_list-requires-clause-list c =
    let b = (goal.at.copy_list-requires-clause-list c).After-object_at-id in
    subst (λ o. IsSome (list_at c.self.inside.heap.graph o)) (id_of_is c.self.inside.heap.graph c.self.inside.heap.stats _ _ c.args.at ∙ sym (id_is b)) (subst (λ v. IsListAt v c.args.at) (sym c.self.view_is) c.requires.list)

on_err_any : {T E P : Type 0} (r : Result T E) → P → OnErr r P
on_err_any (Ok x) p = tt
on_err_any (Err e) p = p

same : (c : In_err-copy) → IsPlaced c.copy_list.new.heap.graph c.self.inside.stack.items c.self.inside.cells.entries
same c =
    let e = c.in_err-copy.ensures in
    record { sound = e.keeps.sound; closed = e.keeps.closed c.self.invariant.closed; holders = e.holders (places c.self.inside.stack.items c.self.inside.cells.entries) c.self.invariant.holders }

pub returns-in_err-copy-clause-kept : goal.returns-in_err-copy-clause-kept
returns-in_err-copy-clause-kept c =
    let a = same (goal.at.returns-in_err-copy-clause-kept c).In_err-copy in
    on_err_any c.from_residual.result (record {
      stack = kept_stack _ _ _ _ c.self.invariant a c.in_err-copy.ensures.keeps.says _ c.self.view_is;
      cells = kept_cells _ _ _ _ c.self.invariant a c.in_err-copy.ensures.keeps.says _ c.self.view_is;
      stays = stays_made _ _ _ _ c.self.invariant a c.in_err-copy.ensures.keeps.says _ c.self.view_is c.in_err-copy.ensures.texts;
    })

ends : (c : In-Some) → c.self.inside.stack.items ≡ c.pop.new.self.items ++ c.in-Some.value ∷ []
ends c = c.pop.ensures.items ∙ ap (λ r. c.pop.new.self.items ++ option_to_list r) c.in-Some.is

pub append_value-requires-clause-can : goal.append_value-requires-clause-can
append_value-requires-clause-can c =
    let a = (goal.at.append_value-requires-clause-can c).In-Some in
    let b = (goal.at.append_value-requires-clause-can c).After-object_at-id in
    can_copy c.self.inside.heap.graph c.self.inside.stack.items c.pop.new.self.items c.self.inside.cells.entries c.in-Some.value c.object_at-id.result c.args.at c.args.self.now c.self.view_is (ends a) c.self.invariant (id_is b) c.requires.place c.requires.list c.requires.shallow c.copy_list.new.heap.graph c.in_ok-copy.copy c.in_ok-copy.ensures.copied

pub put_object-old-requires : goal.put_object-old-requires
put_object-old-requires c =
    let a = (goal.at.put_object-old-requires c).In-Some in
    let b = (goal.at.put_object-old-requires c).After-object_at-id in
    has2 c.self.inside.heap.graph c.self.inside.stack.items c.pop.new.self.items c.self.inside.cells.entries c.in-Some.value c.object_at-id.result c.args.at c.args.self.now c.self.view_is (ends a) c.self.invariant (id_is b) c.requires.place c.requires.list c.requires.shallow

pub release-requires : goal.release-requires
release-requires c =
    let a = (goal.at.release-requires c).In-Some in
    let b = (goal.at.release-requires c).After-object_at-id in
    old_outside c.self.inside.heap.graph c.self.inside.stack.items c.pop.new.self.items c.self.inside.cells.entries c.in-Some.value c.object_at-id.result c.args.at c.args.self.now c.self.view_is (ends a) c.self.invariant (id_is b) c.requires.place c.requires.list c.requires.shallow c.copy_list.new.heap.graph c.in_ok-copy.copy c.in_ok-copy.ensures.copied
    c.append_value.new.heap.graph c.append_value.ensures.appended c.put_object-old.new.stack.items c.put_object-old.new.cells.entries c.put_object-old.result c.put_object-old.ensures

pub invariant_of-self-2 : goal.invariant_of-self-2
invariant_of-self-2 c =
    let a = (goal.at.invariant_of-self-2 c).In-Some in
    let b = (goal.at.invariant_of-self-2 c).After-object_at-id in
    placed3 c.self.inside.heap.graph c.self.inside.stack.items c.pop.new.self.items c.self.inside.cells.entries c.in-Some.value c.object_at-id.result c.args.at c.args.self.now c.self.view_is (ends a) c.self.invariant (id_is b) c.requires.place c.requires.list c.requires.shallow c.copy_list.new.heap.graph c.in_ok-copy.copy c.in_ok-copy.ensures.copied
    c.append_value.new.heap.graph c.append_value.ensures.appended c.put_object-old.new.stack.items c.put_object-old.new.cells.entries c.put_object-old.result c.put_object-old.ensures c.release.new.self.graph c.release.ensures.released c.release.ensures.holders c.release.ensures.keeps

pub returns-clause-appended : goal.returns-clause-appended
returns-clause-appended c =
    let a = (goal.at.returns-clause-appended c).In-Some in
    let b = (goal.at.returns-clause-appended c).After-object_at-id in
    let kept = c.copy_list.ensures.elements in
    copied_view c.self.inside.heap.graph c.self.inside.stack.items c.pop.new.self.items c.self.inside.cells.entries c.in-Some.value c.object_at-id.result c.args.at c.args.self.now c.self.view_is (ends a) c.self.invariant (id_is b) c.requires.place c.requires.list c.requires.shallow c.copy_list.new.heap.graph c.in_ok-copy.copy c.in_ok-copy.ensures.copied
    c.append_value.new.heap.graph c.append_value.ensures.appended c.put_object-old.new.stack.items c.put_object-old.new.cells.entries c.put_object-old.result c.put_object-old.ensures c.release.new.self.graph c.release.ensures.released c.release.ensures.holders c.release.ensures.keeps
    kept.0 kept.1 kept.2 _

pub returns-clause-fresh : goal.returns-clause-fresh
returns-clause-fresh c =
    let new_id = id_of_is c.release.new.self.graph c.release.new.self.stats c.put_object-old.new.stack.items c.put_object-old.new.cells.entries c.args.at ∙ c.put_object-old.ensures.here in
    ap (λ v. at v.graph (id_of (view_of c.release.new.self.graph c.release.new.self.stats c.put_object-old.new.stack.items c.put_object-old.new.cells.entries) c.args.at)) (sym c.self.view_is) ∙ ap (at c.self.inside.heap.graph) new_id ∙ c.in_ok-copy.ensures.copied.fresh

pub returns-clause-listed : goal.returns-clause-listed
returns-clause-listed c =
    let a = (goal.at.returns-clause-listed c).In-Some in
    let b = (goal.at.returns-clause-listed c).After-object_at-id in
    let new_id = id_of_is c.release.new.self.graph c.release.new.self.stats c.put_object-old.new.stack.items c.put_object-old.new.cells.entries c.args.at ∙ c.put_object-old.ensures.here in
    ap (λ o. is_some (list_at c.release.new.self.graph o)) new_id
    ∙ ap is_some (copied_list c.self.inside.heap.graph c.self.inside.stack.items c.pop.new.self.items c.self.inside.cells.entries c.in-Some.value c.object_at-id.result c.args.at c.args.self.now c.self.view_is (ends a) c.self.invariant (id_is b) c.requires.place c.requires.list c.requires.shallow c.copy_list.new.heap.graph c.in_ok-copy.copy c.in_ok-copy.ensures.copied
    c.append_value.new.heap.graph c.append_value.ensures.appended c.put_object-old.new.stack.items c.put_object-old.new.cells.entries c.put_object-old.result c.put_object-old.ensures c.release.new.self.graph c.release.ensures.released c.release.ensures.holders c.release.ensures.keeps)

pub returns-clause-copies : goal.returns-clause-copies
returns-clause-copies c =
    let a = (goal.at.returns-clause-copies c).In-Some in
    let b = (goal.at.returns-clause-copies c).After-object_at-id in
    let g = c.self.inside.heap.graph in
    let kept = c.copy_list.ensures.elements in
    let len = ap (λ f. length (form_parts parts_of f)) kept.2.form ∙ ap length (list_parts kept.0 kept.1 kept.2.list) ∙ sym (length-map kept.1 (text_of g)) in
    let here = text_here g c.self.inside.stack.items c.pop.new.self.items c.self.inside.cells.entries c.in-Some.value c.object_at-id.result c.args.at c.args.self.now c.self.view_is (ends a) c.self.invariant (id_is b) c.requires.place c.requires.list c.requires.shallow in
    known_elements (elements (text_at c.args.self.now c.args.at)) _ (map (text_of g) kept.1) (ap elements here ∙ kept.2.elements)
    (ap (λ h. h.stats) c.release.ensures.rest ∙ ap (λ h. h.stats) c.append_value.ensures.rest ∙ c.in_ok-copy.ensures.counted
    ∙ ap (copied_more c.self.inside.heap.stats) len ∙ ap (λ v. copied_more v.stats (length (map (text_of g) kept.1))) c.self.view_is)

pub returns-clause-stats : goal.returns-clause-stats
returns-clause-stats c ids is =
    let b = (goal.at.returns-clause-stats c).After-object_at-id in
    let g = c.self.inside.heap.graph in
    let kept = c.copy_list.ensures.elements in
    let there = ap (list_at g) (id_is b ∙ sym (id_of_is g c.self.inside.heap.stats c.self.inside.stack.items c.self.inside.cells.entries c.args.at)) ∙ ap (λ v. list_at v.graph (id_of v c.args.at)) c.self.view_is ∙ is in
    let same = (let e : Some kept.1 ≡ Some ids = sym (ap list_in kept.2.form ∙ kept.2.list) ∙ there in let e2 : kept.1 ≡ ids = cc in e2) in
    let len = ap (λ f. length (form_parts parts_of f)) kept.2.form ∙ ap length (list_parts kept.0 kept.1 kept.2.list) ∙ ap length same in
    ap (λ h. h.stats) c.release.ensures.rest ∙ ap (λ h. h.stats) c.append_value.ensures.rest ∙ c.in_ok-copy.ensures.counted
    ∙ ap (copied_more c.self.inside.heap.stats) len ∙ ap (λ v. copied_more v.stats (length ids)) c.self.view_is
