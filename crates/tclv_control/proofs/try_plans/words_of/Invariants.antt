use Rattle.std.proofs.Common.{◌≡◌, ◌++◌, drop}
use Rattle.tclv_value.specs.Stacks.{top}
use Rattle.tclv_engine.specs.Answers.{SameState}
use Rattle.tclv_control.proofs.try_plans.words_of.Given as goal

-- The words before a place were copied.
abbrev pub invariant-loop-at : goal.invariant-loop-at
invariant-loop-at g l = record {
  words : l.words ++ drop l.at l.fn.machine.values.store.stack ≡ top l.n l.fn.machine.values.store.stack;
  stack : l.machine.values.store.stack ≡ l.fn.machine.values.store.stack;
  same : SameState l.fn.machine l.machine;
}
