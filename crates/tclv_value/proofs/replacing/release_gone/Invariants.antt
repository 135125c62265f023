use Rattle.std.proofs.Common.{◌≡◌, take}
use Rattle.tclv_forms.specs.Lists.{between}
use Rattle.tclv_value.specs.Replacing.{Loses}
use Rattle.tclv_value.proofs.replacing.release_gone.Given as goal

-- So many objects are released.
abbrev pub invariant-loop-k : goal.invariant-loop-k
invariant-loop-k l =
    Loses l.fn.heap.graph (take l.k (between l.list.ids l.from l.to)) l.heap.graph
    × (l.heap ≡ record l.fn.heap { graph = l.heap.graph })
