use Rattle.std.proofs.Common.{◌≡◌, ◌<◌, ◌+◌, ◌-◌, ℕ, length}
use Rattle.tclv_heap.specs.Stands.{deepest}
use Rattle.tclv_value.specs.Changes.{KeepsTexts}
use Rattle.tclv_value.specs.ListObjects.{IsShallow, Retells, depth_at}
use Rattle.tclv_value.specs.declared.places.At.TheVariants.{Stack}
use Rattle.tclv_value.proofs.store.Store.make_shallow.Given as goal

-- So many of them are less than 50 deep.
abbrev pub invariant-loop-k : goal.invariant-loop-k
invariant-loop-k l = record {
  kept : KeepsTexts l.fn.self l.self;
  retells : Retells l.fn.self l.self;
  shallow : (j : ℕ) → j < l.k → depth_at l.self (Stack (length l.fn.self.stack - l.n + j)) < deepest;
  before : IsShallow l.n l.fn.self → l.self ≡ l.fn.self;
}
