use Rattle.tclv_value.specs.Changes.{KeepsTexts}
use Rattle.tclv_value.proofs.store.Store.write_indices.Given as goal

-- All texts stay.
abbrev pub invariant-loop-k : goal.invariant-loop-k
invariant-loop-k l = KeepsTexts l.fn.self l.self
