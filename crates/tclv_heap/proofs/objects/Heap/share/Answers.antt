use Rattle.std.proofs.Common.{◌≡◌, ◌≢◌, ◌+◌, min, arith, refl, set, Some}
use Rattle.tclv_heap.specs.declared.ids.Object.{Object}
use Rattle.tclv_heap.specs.Graph.{stuck}
use Rattle.tclv_heap.specs.Stands.{Keeps}
use Rattle.tclv_heap.proofs.GraphLemmas.{Updates_set}
use Rattle.tclv_heap.proofs.HeapLemmas.{Valid_recount}
use Rattle.tclv_heap.proofs.HoldersLemmas.{Holders_share, Closed_updates}
use Rattle.tclv_heap.proofs.objects.Heap.share.Given.{Over}
use Rattle.tclv_heap.proofs.objects.Heap.share.Goals as goal
use Rattle.tclv_heap.proofs.objects.Heap.share.Goals.{After-saturating_add-object}

keeps : (g : Over) (c : After-saturating_add-object g) → let m : Object g.row.T-Form.Denot = record c.index_mut-object.result.now { count = c.saturating_add-object.result } in Keeps g.T.Types.table c.self.inside.objects.slots (set c.self.inside.objects.slots c.id.inside.0 (Some m))
keeps g c =
    let n = c.index_mut-object.result.now in
    let is = c.index_mut-object.ensures.value in
    let counts = c.self.invariant.sound.counts c.id.inside.0 _ is in
    let v = Valid_recount g.T.Types.table _ _ n _ c.self.invariant is refl refl refl refl (omega arith) (omega arith)
    (λ loose.
    let was_loose : n.count ≢ stuck = λ e. loose (omega arith) in
    omega (arith, c.self.invariant.sound.counted _ _ is was_loose)) in
    record {
      sound = v.0;
      says = v.1;
      closed = λ closed. Closed_updates _ _ _ _ closed (Updates_set _ _ n _ is) (λ none. closed _ n is none);
    }

pub invariant_of-self : goal.invariant_of-self
invariant_of-self g c = (keeps g (goal.at.invariant_of-self g c).After-saturating_add-object).sound

pub returns-clause-keeps : goal.returns-clause-keeps
returns-clause-keeps g c = rw (← c.self.view_is) (keeps g (goal.at.returns-clause-keeps g c).After-saturating_add-object)

pub returns-clause-holders : goal.returns-clause-holders
returns-clause-holders g c ids holders =
    let n = c.index_mut-object.result.now in
    let is = c.index_mut-object.ensures.value in
    let count : c.saturating_add-object.result ≡ min (n.count + 1) stuck = omega arith in
    rw (← c.id.view_is) (Holders_share g.T.Types.table.parts _ _ c.id.inside.0 n ids (rw (← c.self.view_is) at holders) is (rw (← count) (Updates_set _ _ n _ is)))
