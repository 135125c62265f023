use Rattle.std.proofs.Common.{◌≡◌, ◌<◌, ◌-◌, ℕ, take, length, IsSome}
use Rattle.tclv_heap.specs.Graph.{at, occurs, form_in, text_in, form_parts, Leads}
use Rattle.tclv_heap.specs.Stands.{IsSound, stands, depth_of}
use Rattle.tclv_heap.specs.Counters.{Writes}
use Rattle.tclv_heap.specs.Noted.{Noted}
use Rattle.tclv_heap.proofs.strings.+make_texts.Given as goal

-- The depth.
abbrev pub decreases-make_texts : goal.decreases-make_texts
decreases-make_texts g l = depth_of (at l.objects.now.slots l.id)

-- The parts before `k` have their texts, and each object that got one is noted.
abbrev pub invariant-loop-kid : goal.invariant-loop-kid
invariant-loop-kid g l =
    IsSound g.T.Types.table l.objects.slots
    × ((o : ℕ) → IsSome (at l.fn.objects.slots o) → stands g.T.Types.table l.objects.slots o ≡ stands g.T.Types.table l.fn.objects.slots o)
    × Noted g.T.Types.table (Leads g.T.Types.table.parts l.fn.objects.slots l.id) l.fn.objects.slots l.fn.made.items l.objects.slots l.made.items
    × ((p : ℕ) → 0 < occurs p (take l.k (form_parts g.T.Types.table.parts (form_in (at l.fn.objects.slots l.id)))) → IsSome (text_in (at l.objects.slots p)))
    × Writes l.fn.objects.slots l.objects.slots l.fn.written l.written

abbrev pub decreases-loop-kid : goal.decreases-loop-kid
decreases-loop-kid g l = length (form_parts g.T.Types.table.parts (form_in (at l.fn.objects.slots l.id))) - l.k
