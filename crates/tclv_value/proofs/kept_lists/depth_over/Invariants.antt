use Rattle.std.proofs.Common.{take}
use Rattle.tclv_value.specs.Kept.{IsAbove}
use Rattle.tclv_value.proofs.kept_lists.depth_over.Given as goal

-- It is above so many of them.
abbrev pub invariant-loop-id : goal.invariant-loop-id
invariant-loop-id l = IsAbove l.heap.graph (take l.id-index l.ids) l.depth
