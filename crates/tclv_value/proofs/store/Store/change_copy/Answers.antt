use Rattle.std.proofs.Common.{subst}
use Rattle.std.specs.Prelude.{IsOkAnd}
use Rattle.tclv_text.specs.Elements.{elements}
use Rattle.tclv_value.specs.Places.{text_of}
use Rattle.tclv_value.specs.Setting.{copied_more}
use Rattle.tclv_value.proofs.AnswerLemmas.{ok_and}
use Rattle.tclv_value.proofs.SetPlaceLemmas.{text_here}
use Rattle.std.proofs.Common.{◌≡◌, ◌-◌, ◌≤◌, length, get_or, Result, Ok, Err, ap, sym, ◌∙◌, arith}
use Rattle.std.proofs.lemmas.List.{get_or_default}
use Rattle.std.specs.Prelude.{OnErr}
use Rattle.tclv_value.specs.Places.{id_at, places, IsPlaced}
use Rattle.tclv_value.specs.Setting.{MakesList}
use Rattle.tclv_value.proofs.ViewLemmas.{named_id, under_there, kept_stack, kept_cells, stays_made}
use Rattle.tclv_value.proofs.SetPlaceLemmas.{filled_at, has, list_here, outside_value, shallow_here, within_here, some_text, old_outside, placed_copy, known_copy, listed_copy, fresh_copy, another_copy}
use Rattle.tclv_value.proofs.store.Store.change_copy.Goals as goal
use Rattle.tclv_value.proofs.store.Store.change_copy.Goals.{After-object_at-id, After-index-value, In_err-copy, In_ok-copy}

id_is : (c : After-object_at-id) → c.object_at-id.result ≡ id_at c.self.inside.stack.items c.self.inside.cells.entries c.args.at
id_is c = c.object_at-id.ensures ∙ ap (λ xs. id_at xs c.self.inside.cells.entries c.args.at) c.as_slice.ensures.value

value_is : (c : After-index-value) → c.index-value.result.now ≡ get_or c.self.inside.stack.items (length c.self.inside.stack.items - 1) 0
value_is c =
    let len = c.len.ensures ∙ sym c.as_slice.ensures.len ∙ ap length c.as_slice.ensures.value in
    let filled = filled_at c.self.inside.heap.graph c.self.inside.stack.items c.self.inside.cells.entries c.args.at c.args.self.now c.self.view_is c.requires.place in
    c.index-value.ensures ∙ get_or_default c.self.inside.stack.items (c.len.result - 1) c.index-value.result.now 0 (omega (arith, filled, len)) ∙ ap (λ n. get_or c.self.inside.stack.items (n - 1) 0) len

pub object_at-id-requires : goal.object_at-id-requires
object_at-id-requires c = rw c.as_slice.ensures.value (named_id c.self.inside.heap.graph _ _ _ c.self.view_is c.args.at (under_there c.args.self.now 1 c.args.at c.requires.place))

pub copy_with-requires-clause-list : goal.copy_with-requires-clause-list
copy_with-requires-clause-list c =
    let a = (goal.at.copy_with-requires-clause-list c).After-object_at-id in
    let b = (goal.at.copy_with-requires-clause-list c).After-index-value in
    list_here c.self.inside.heap.graph c.self.inside.stack.items c.self.inside.cells.entries c.index-value.result.now c.object_at-id.result c.args.at c.args.self.now c.self.view_is c.self.invariant (id_is a) (value_is b) c.requires.place c.requires.list

pub copy_with-requires-clause-within : goal.copy_with-requires-clause-within
copy_with-requires-clause-within c =
    let a = (goal.at.copy_with-requires-clause-within c).After-object_at-id in
    let b = (goal.at.copy_with-requires-clause-within c).After-index-value in
    within_here c.self.inside.heap.graph c.self.inside.stack.items c.self.inside.cells.entries c.index-value.result.now c.object_at-id.result c.args.at c.args.self.now c.self.view_is c.self.invariant (id_is a) (value_is b) c.requires.place (λ ts. c.args.place ≤ length ts) c.requires.within

pub copy_with-requires-clause-value : goal.copy_with-requires-clause-value
copy_with-requires-clause-value c =
    let a = (goal.at.copy_with-requires-clause-value c).After-object_at-id in
    let b = (goal.at.copy_with-requires-clause-value c).After-index-value in
    outside_value c.self.inside.heap.graph c.self.inside.stack.items c.self.inside.cells.entries c.index-value.result.now c.object_at-id.result c.args.at c.args.self.now c.self.view_is c.self.invariant (id_is a) (value_is b) c.requires.place

pub copy_with-requires-clause-shallow : goal.copy_with-requires-clause-shallow
copy_with-requires-clause-shallow c =
    let a = (goal.at.copy_with-requires-clause-shallow c).After-object_at-id in
    let b = (goal.at.copy_with-requires-clause-shallow c).After-index-value in
    shallow_here c.self.inside.heap.graph c.self.inside.stack.items c.self.inside.cells.entries c.index-value.result.now c.object_at-id.result c.args.at c.args.self.now c.self.view_is c.self.invariant (id_is a) (value_is b) c.requires.place c.requires.shallow

on_err_any : {T E P : Type 0} (r : Result T E) → P → OnErr r P
on_err_any (Ok x) p = tt
on_err_any (Err e) p = p

same : (c : In_err-copy) → IsPlaced c.copy_with.new.heap.graph c.self.inside.stack.items c.self.inside.cells.entries
same c =
    let e = c.in_err-copy.ensures in
    record { sound = e.keeps.sound; closed = e.keeps.closed c.self.invariant.closed; holders = e.holders (places c.self.inside.stack.items c.self.inside.cells.entries) c.self.invariant.holders }

pub returns-in_err-copy-clause-kept : goal.returns-in_err-copy-clause-kept
returns-in_err-copy-clause-kept c =
    let a = same (goal.at.returns-in_err-copy-clause-kept c).In_err-copy in
    on_err_any c.from_residual.result (record {
      stack = kept_stack _ _ _ _ c.self.invariant a c.in_err-copy.ensures.keeps.says _ c.self.view_is;
      cells = kept_cells _ _ _ _ c.self.invariant a c.in_err-copy.ensures.keeps.says _ c.self.view_is;
      stays = stays_made _ _ _ _ c.self.invariant a c.in_err-copy.ensures.keeps.says _ c.self.view_is c.in_err-copy.ensures.texts;
    })

makes : (c : In_ok-copy) → (t : _) × MakesList c.self.inside.heap.graph c.copy_with.new.heap.graph c.in_ok-copy.copy t
makes c = some_text _ (λ t. MakesList c.self.inside.heap.graph c.copy_with.new.heap.graph c.in_ok-copy.copy t) _ c.in_ok-copy.ensures.copied

pub put_object-old-requires : goal.put_object-old-requires
put_object-old-requires c =
    let a = (goal.at.put_object-old-requires c).After-object_at-id in
    let b = (goal.at.put_object-old-requires c).After-index-value in
    has c.self.inside.heap.graph c.self.inside.stack.items c.self.inside.cells.entries c.index-value.result.now c.object_at-id.result c.args.at c.args.self.now c.self.view_is c.self.invariant (id_is a) (value_is b) c.requires.place

pub release-requires : goal.release-requires
release-requires c =
    let a = (goal.at.release-requires c).After-object_at-id in
    let b = (goal.at.release-requires c).After-index-value in
    let m = makes (goal.at.release-requires c).In_ok-copy in
    old_outside c.self.inside.heap.graph c.self.inside.stack.items c.self.inside.cells.entries c.index-value.result.now c.object_at-id.result c.args.at c.args.self.now c.self.view_is c.self.invariant (id_is a) (value_is b) c.requires.place c.copy_with.new.heap.graph c.in_ok-copy.copy m.0 m.1 c.put_object-old.new.stack.items c.put_object-old.new.cells.entries c.put_object-old.result c.put_object-old.ensures

pub invariant_of-self-2 : goal.invariant_of-self-2
invariant_of-self-2 c =
    let a = (goal.at.invariant_of-self-2 c).After-object_at-id in
    let b = (goal.at.invariant_of-self-2 c).After-index-value in
    let m = makes (goal.at.invariant_of-self-2 c).In_ok-copy in
    let e = c.release.ensures in
    placed_copy c.self.inside.heap.graph c.self.inside.stack.items c.self.inside.cells.entries c.index-value.result.now c.object_at-id.result c.args.at c.args.self.now c.self.view_is c.self.invariant (id_is a) (value_is b) c.requires.place c.copy_with.new.heap.graph c.in_ok-copy.copy m.0 m.1 c.put_object-old.new.stack.items c.put_object-old.new.cells.entries c.put_object-old.result c.put_object-old.ensures c.release.new.self.graph e.released e.holders e.keeps

pub returns-clause-changed : goal.returns-clause-changed
returns-clause-changed c =
    let a = (goal.at.returns-clause-changed c).After-object_at-id in
    let b = (goal.at.returns-clause-changed c).After-index-value in
    let e = c.release.ensures in
    known_copy c.self.inside.heap.graph c.self.inside.stack.items c.self.inside.cells.entries c.index-value.result.now c.object_at-id.result c.args.at c.args.self.now c.self.view_is c.self.invariant (id_is a) (value_is b) c.requires.place c.copy_with.new.heap.graph c.in_ok-copy.copy c.args.place c.put_object-old.new.stack.items c.put_object-old.new.cells.entries c.put_object-old.result c.put_object-old.ensures c.release.new.self.graph e.released e.holders e.keeps _ c.in_ok-copy.ensures.copied

pub returns-clause-another : goal.returns-clause-another
returns-clause-another c =
    let a = (goal.at.returns-clause-another c).After-object_at-id in
    let b = (goal.at.returns-clause-another c).After-index-value in
    let m = makes (goal.at.returns-clause-another c).In_ok-copy in
    let e = c.release.ensures in
    another_copy c.self.inside.heap.graph c.self.inside.stack.items c.self.inside.cells.entries c.index-value.result.now c.object_at-id.result c.args.at c.args.self.now c.self.view_is c.self.invariant (id_is a) (value_is b) c.requires.place c.copy_with.new.heap.graph c.in_ok-copy.copy m.0 m.1 c.put_object-old.new.stack.items c.put_object-old.new.cells.entries c.put_object-old.result c.put_object-old.ensures c.release.new.self.graph e.released e.holders e.keeps c.release.new.self.stats

pub returns-clause-fresh : goal.returns-clause-fresh
returns-clause-fresh c =
    let a = (goal.at.returns-clause-fresh c).After-object_at-id in
    let b = (goal.at.returns-clause-fresh c).After-index-value in
    let m = makes (goal.at.returns-clause-fresh c).In_ok-copy in
    let e = c.release.ensures in
    fresh_copy c.self.inside.heap.graph c.self.inside.stack.items c.self.inside.cells.entries c.index-value.result.now c.object_at-id.result c.args.at c.args.self.now c.self.view_is c.self.invariant (id_is a) (value_is b) c.requires.place c.copy_with.new.heap.graph c.in_ok-copy.copy m.0 m.1 c.put_object-old.new.stack.items c.put_object-old.new.cells.entries c.put_object-old.result c.put_object-old.ensures c.release.new.self.graph e.released e.holders e.keeps c.release.new.self.stats

pub returns-clause-listed : goal.returns-clause-listed
returns-clause-listed c =
    let a = (goal.at.returns-clause-listed c).After-object_at-id in
    let b = (goal.at.returns-clause-listed c).After-index-value in
    let m = makes (goal.at.returns-clause-listed c).In_ok-copy in
    let e = c.release.ensures in
    listed_copy c.self.inside.heap.graph c.self.inside.stack.items c.self.inside.cells.entries c.index-value.result.now c.object_at-id.result c.args.at c.args.self.now c.self.view_is c.self.invariant (id_is a) (value_is b) c.requires.place c.copy_with.new.heap.graph c.in_ok-copy.copy m.0 m.1 c.put_object-old.new.stack.items c.put_object-old.new.cells.entries c.put_object-old.result c.put_object-old.ensures c.release.new.self.graph e.released e.holders e.keeps c.release.new.self.stats

pub returns-clause-copies : goal.returns-clause-copies
returns-clause-copies c =
    let a = (goal.at.returns-clause-copies c).After-object_at-id in
    let b = (goal.at.returns-clause-copies c).After-index-value in
    let here = text_here c.self.inside.heap.graph c.self.inside.stack.items c.self.inside.cells.entries c.index-value.result.now c.object_at-id.result c.args.at c.args.self.now c.self.view_is c.self.invariant (id_is a) (value_is b) c.requires.place in
    let old = ap (λ v. v.stats) c.self.view_is in
    subst (λ t. IsOkAnd (elements t) (λ ts. c.release.new.self.stats ≡ copied_more c.args.self.now.stats (length ts))) (sym here)
    (ok_and (elements (text_of c.self.inside.heap.graph c.object_at-id.result)) (λ ts. c.copy_with.new.heap.stats ≡ copied_more c.self.inside.heap.stats (length ts)) (λ ts. c.release.new.self.stats ≡ copied_more c.args.self.now.stats (length ts))
    (λ ts e. ap (λ h. h.stats) c.release.ensures.rest ∙ e ∙ ap (λ st. copied_more st (length ts)) old) c.in_ok-copy.ensures.counted)
