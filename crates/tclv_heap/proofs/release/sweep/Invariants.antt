use Rattle.std.proofs.Common.{◌≡◌, [], None, is_some, count_by}
use Rattle.tclv_heap.specs.Dying.{Dying, Listed}
use Rattle.tclv_heap.proofs.release.sweep.Given as goal

abbrev pub invariant-loop-head : goal.invariant-loop-head
invariant-loop-head g l =
    Dying g.T.Types.table.parts l.fn.objects.slots [] [] l.objects.slots × Listed l.objects.slots l.head
    × (l.initial.head ≡ None → (l.objects.slots ≡ l.fn.objects.slots) × (l.head ≡ None))

-- The number of objects.
abbrev pub decreases-loop-head : goal.decreases-loop-head
decreases-loop-head g l = count_by is_some l.objects.slots
