use Rattle.tclv_value.specs.Changes.{Grows}
use Rattle.tclv_value.specs.View.{HasPlace}
use Rattle.tclv_value.proofs.store.Store.read_levels.Given as goal

-- The list is a place that is there.
abbrev pub invariant-loop-k : goal.invariant-loop-k
invariant-loop-k l = record {
  grows : Grows l.fn.self l.self;
  list : HasPlace l.self l.list;
}
