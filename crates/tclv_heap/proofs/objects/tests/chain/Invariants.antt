use Rattle.std.proofs.Common.{[], ◌∷◌, IsSome}
use Rattle.tclv_heap.specs.Graph.{at, text_in}
use Rattle.tclv_heap.specs.Holders.{Holders}
use Rattle.tclv_heap.specs.Links.{links_table}
use Rattle.tclv_heap.specs.Stands.{IsClosed}
use Rattle.tclv_heap.proofs.objects.tests.chain.Given as goal

-- The last object is the one that is held outside, and has its text.
abbrev pub invariant-loop : goal.invariant-loop
invariant-loop l =
    IsClosed l.heap.graph
    × Holders links_table.parts l.heap.graph (l.last ∷ [])
    × IsSome (text_in (at l.heap.graph l.last))
