use Rattle.std.proofs.Common.{take}
use Rattle.tclv_value.proofs.KeptLemmas.{Goes}
use Rattle.tclv_value.proofs.kept_lists.release_all.Given as goal

-- So many objects are released.
abbrev pub invariant-loop-k : goal.invariant-loop-k
invariant-loop-k l = Goes l.fn.heap.graph (take l.k l.list.ids) l.heap.graph
