use Rattle.std.proofs.Common.{◌≡◌, [], is_some, count_by, drop}
use Rattle.tclv_heap.specs.Dying.{Dying, Listed}
use Rattle.tclv_heap.proofs.release.drop_parts.Given as goal

-- The holders from `k` on are still to go, and no object has gone.
abbrev pub invariant-loop-k : goal.invariant-loop-k
invariant-loop-k g l =
    Dying g.T.Types.table.parts l.fn.objects.slots (g.T.Types.table.parts l.form) (drop l.k (g.T.Types.table.parts l.form)) l.objects.slots
    × Listed l.objects.slots l.head
    × (count_by is_some l.objects.slots ≡ count_by is_some l.fn.objects.slots)
    × (g.T.Types.table.parts l.form ≡ [] → (l.objects.slots ≡ l.fn.objects.slots) × (l.head ≡ l.initial.head))
