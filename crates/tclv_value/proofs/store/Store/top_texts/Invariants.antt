use Rattle.std.proofs.Common.{◌≡◌, drop, take}
use Rattle.tclv_value.specs.Changes.{KeepsTexts}
use Rattle.tclv_value.proofs.store.Store.top_texts.Given as goal

-- So many texts are copied.
abbrev pub invariant-loop-i : goal.invariant-loop-i
invariant-loop-i l = record {
  texts : l.found.items ≡ take l.i (drop l.low l.fn.self.stack);
  kept : KeepsTexts l.fn.self l.self;
}
