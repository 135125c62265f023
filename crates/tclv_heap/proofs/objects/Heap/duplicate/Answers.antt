use Rattle.std.proofs.Common.{◌≡◌, Some, refl, ap, ◌∙◌, subst}
use Rattle.tclv_heap.specs.Graph.{Shared, form_parts, new_object}
use Rattle.tclv_heap.specs.Stands.{Keeps}
use Rattle.tclv_heap.proofs.CopyLemmas.{copied_there, Valid_duplicate, Duplicated}
use Rattle.tclv_heap.proofs.HoldersLemmas.{Holders_duplicate, Closed_duplicate}
use Rattle.tclv_heap.proofs.objects.Heap.duplicate.Given.{Over}
use Rattle.tclv_heap.proofs.objects.Heap.duplicate.Goals as goal
use Rattle.tclv_heap.proofs.objects.Heap.duplicate.Goals.{In_ok-reserve, After-insert_reserved-key}

same_slots : (g : Over) (c : In_ok-reserve g) → c.reserve.new.self.slots ≡ c.self.inside.objects.slots
same_slots g c = let e = c.reserve.ensures.rest_kept in cc

pub share_parts-parts-requires-clause-there : goal.share_parts-parts-requires-clause-there
share_parts-parts-requires-clause-there g c =
    rw (same_slots g (goal.at.share_parts-parts-requires-clause-there g c).In_ok-reserve) (copied_there g.T.Types.table _ _ c.index-object.result.now _ _ c.self.invariant c.index-object.ensures c.in_ok-text.ensures)

pub share_parts-parts-requires-clause-low : goal.share_parts-parts-requires-clause-low
share_parts-parts-requires-clause-low g c =
    rw (same_slots g (goal.at.share_parts-parts-requires-clause-low g c).In_ok-reserve) (λ o n is. (c.self.invariant.sound.counts o n is).1)

duplicated : (g : Over) (c : After-insert_reserved-key g) → Duplicated g.T.Types.table c.self.inside.objects.slots c.id.inside.0 c.insert_reserved-key.result (new_object c.in_ok-text.text c.in_ok-text.form c.index-object.result.now.depth) c.insert_reserved-key.new.self.slots
duplicated g c =
    let u = c.insert_reserved-key.ensures.updates in
    let e = same_slots g (goal.at.After-insert_reserved-key g c).In_ok-reserve in
    let shared = subst (λ x. Shared x (form_parts g.T.Types.table.parts c.in_ok-text.form) c.share_parts-parts.new.objects.slots) e c.share_parts-parts.ensures.shared in
    Valid_duplicate g.T.Types.table _ _ _ _ _ c.index-object.result.now _ c.self.invariant c.index-object.ensures (rw (← c.self.view_is, ← c.id.view_is) at c.requires.told) c.in_ok-text.ensures shared
    c.insert_reserved-key.ensures.was_vacant (record { changed = u.changed ∙ ap Some c.new.ensures; others = u.others }) refl refl refl

keeps : (g : Over) (c : After-insert_reserved-key g) → Keeps g.T.Types.table c.self.inside.objects.slots c.insert_reserved-key.new.self.slots
keeps g c =
    let d = duplicated g c in
    record {
      sound = d.valid;
      says = λ o was there. d.says o was;
      closed = λ closed. Closed_duplicate _ _ _ _ _ closed d.duplicates.shared d.tells;
    }

pub invariant_of-self-2 : goal.invariant_of-self-2
invariant_of-self-2 g c = (duplicated g (goal.at.invariant_of-self-2 g c).After-insert_reserved-key).valid

pub returns-clause-duplicated : goal.returns-clause-duplicated
returns-clause-duplicated g c = rw (← c.self.view_is, ← c.id.view_is) (_, (duplicated g (goal.at.returns-clause-duplicated g c).After-insert_reserved-key).duplicates)

pub returns-clause-keeps : goal.returns-clause-keeps
returns-clause-keeps g c = rw (← c.self.view_is) (keeps g (goal.at.returns-clause-keeps g c).After-insert_reserved-key)

pub returns-clause-holders : goal.returns-clause-holders
returns-clause-holders g c ids holders =
    let d = (duplicated g (goal.at.returns-clause-holders g c).After-insert_reserved-key).duplicates in
    Holders_duplicate g.T.Types.table.parts _ _ _ _ ids (rw (← c.self.view_is) at holders) d.shared d.rises d.count d.free
