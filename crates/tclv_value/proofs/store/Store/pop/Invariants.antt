use Rattle.std.proofs.Common.{◌≡◌, ◌-◌, take, length}
use Rattle.tclv_value.specs.View.{KeepsMade}
use Rattle.tclv_value.specs.ListObjects.{KeepsCells}
use Rattle.tclv_value.proofs.store.Store.pop.Given as goal

-- So many texts are off the stack.
abbrev pub invariant-loop-gone : goal.invariant-loop-gone
invariant-loop-gone l = record {
  stack : l.self.stack ≡ take (length l.fn.self.stack - l._gone) l.fn.self.stack;
  cells : l.self.cells ≡ l.fn.self.cells;
  keeps : KeepsMade l.fn.self l.self;
  objects : KeepsCells l.fn.self l.self;
}
