use Rattle.tclv_heap.specs.Stands.{Keeps}
use Rattle.tclv_heap.proofs.HeapLemmas.{Valid_release}
use Rattle.tclv_heap.proofs.HoldersLemmas.{Holders_release, Closed_release}
use Rattle.tclv_heap.proofs.objects.Heap.release.Given.{Over}
use Rattle.tclv_heap.proofs.objects.Heap.release.Goals as goal
use Rattle.tclv_heap.proofs.objects.Heap.release.Goals.{After-release_one}

keeps : (g : Over) (c : After-release_one g) → Keeps g.T.Types.table c.self.inside.objects.slots c.release_one.new.objects.slots
keeps g c =
    let v = Valid_release g.T.Types.table _ _ _ c.self.invariant c.release_one.ensures.released c.release_one.ensures.sound in
    record { sound = v.0; says = v.1; closed = λ closed. Closed_release g.T.Types.table.parts _ _ _ closed c.release_one.ensures.released }

pub invariant_of-self : goal.invariant_of-self
invariant_of-self g c = (keeps g (goal.at.invariant_of-self g c).After-release_one).sound

pub returns-clause-keeps : goal.returns-clause-keeps
returns-clause-keeps g c = rw (← c.self.view_is) (keeps g (goal.at.returns-clause-keeps g c).After-release_one)

pub returns-clause-holders : goal.returns-clause-holders
returns-clause-holders g c ids holders = Holders_release g.T.Types.table.parts _ _ _ ids (rw (← c.self.view_is) at holders) c.release_one.ensures.released
