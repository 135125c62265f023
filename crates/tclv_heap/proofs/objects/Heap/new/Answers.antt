use Rattle.tclv_heap.proofs.HeapLemmas.{Valid_empty}
use Rattle.tclv_heap.proofs.objects.Heap.new.Goals as goal

pub invariant_of-result : goal.invariant_of-result
invariant_of-result g c = rw c.new.ensures.empty (Valid_empty g.T.Types.table)

pub returns-clause-sound : goal.returns-clause-sound
returns-clause-sound g c = rw c.new.ensures.empty (Valid_empty g.T.Types.table)
