use Rattle.std.proofs.Common.{Some, is_some, refl, ap, ◌∙◌}
use Rattle.tclv_heap.specs.Graph.{Updates, new_object}
use Rattle.tclv_heap.specs.Stands.{Keeps}
use Rattle.tclv_heap.proofs.HeapLemmas.{Valid_insert, Inserted}
use Rattle.tclv_heap.proofs.HoldersLemmas.{Holders_insert, Closed_updates}
use Rattle.tclv_heap.proofs.objects.Heap.insert.Given.{Over}
use Rattle.tclv_heap.proofs.objects.Heap.insert.Goals as goal
use Rattle.tclv_heap.proofs.objects.Heap.insert.Goals.{In_ok-key}

updates : (g : Over) (c : In_ok-key g) → Updates c.self.inside.objects.slots c.insert.new.self.slots c.in_ok-key.key (Some (new_object c.args.text c.args.form c.args.depth))
updates g c = let u = c.in_ok-key.ensures.updates in record { changed = u.changed ∙ ap Some c.new.ensures; others = u.others }

inserted : (g : Over) (c : In_ok-key g) → Inserted g.T.Types.table c.self.inside.objects.slots c.insert.new.self.slots c.in_ok-key.key (new_object c.args.text c.args.form c.args.depth)
inserted g c =
    Valid_insert g.T.Types.table _ _ _ _ c.self.invariant c.in_ok-key.ensures.was_vacant (updates g c) refl refl
    (rw (← c.self.view_is) at c.requires.takes) c.requires.spoken (rw (← c.self.view_is) at c.requires.fits) (rw (← c.self.view_is) at c.requires.depth) c.requires.plain

keeps : (g : Over) (c : In_ok-key g) → Keeps g.T.Types.table c.self.inside.objects.slots c.insert.new.self.slots
keeps g c =
    let i = inserted g c in
    record {
      sound = i.valid;
      says = λ o was there. i.says o was;
      closed = λ closed. Closed_updates _ _ _ _ closed (updates g c) (λ none. ap is_some (c.requires.spoken none).1);
    }

pub invariant_of-self-2 : goal.invariant_of-self-2
invariant_of-self-2 g c = (inserted g (goal.at.invariant_of-self-2 g c).In_ok-key).valid

pub returns-clause-made : goal.returns-clause-made
returns-clause-made g c =
    let a = (goal.at.returns-clause-made g c).In_ok-key in
    rw (← c.self.view_is) (record { fresh = c.in_ok-key.ensures.was_vacant; made = updates g a; free = (inserted g a).free })

pub returns-clause-stands : goal.returns-clause-stands
returns-clause-stands g c = rw (← c.self.view_is) (inserted g (goal.at.returns-clause-stands g c).In_ok-key).stands_new

pub returns-clause-keeps : goal.returns-clause-keeps
returns-clause-keeps g c = rw (← c.self.view_is) (keeps g (goal.at.returns-clause-keeps g c).In_ok-key)

pub returns-clause-holders : goal.returns-clause-holders
returns-clause-holders g c ids holders =
    let a = (goal.at.returns-clause-holders g c).In_ok-key in
    Holders_insert g.T.Types.table.parts _ _ _ (new_object c.args.text c.args.form c.args.depth) ids (rw (← c.self.view_is) at holders) c.in_ok-key.ensures.was_vacant (updates g a) refl (inserted g a).free
