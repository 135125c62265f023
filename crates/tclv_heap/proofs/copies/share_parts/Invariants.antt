use Rattle.std.proofs.Common.{◌≡◌, is_some, count_by, take}
use Rattle.tclv_heap.specs.Graph.{Shared}
use Rattle.tclv_heap.proofs.copies.share_parts.Given as goal

-- The parts before `k` have their holders.
abbrev pub invariant-loop-k : goal.invariant-loop-k
invariant-loop-k g l =
    Shared l.fn.objects.slots (take l.k (g.T.Types.table.parts l.form)) l.objects.slots
    × (count_by is_some l.objects.slots ≡ count_by is_some l.fn.objects.slots)
    × (l.objects.capacity ≡ l.fn.objects.capacity)
