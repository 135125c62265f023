use Rattle.std.proofs.Common.{take}
use Rattle.tclv_heap.specs.Noted.{Untexted}
use Rattle.tclv_heap.proofs.strings.take_texts.Given as goal

-- The texts before the place are away.
abbrev pub invariant-loop-id : goal.invariant-loop-id
invariant-loop-id g l = Untexted l.fn.objects.slots (take l.id-index l.made.items) l.objects.slots
