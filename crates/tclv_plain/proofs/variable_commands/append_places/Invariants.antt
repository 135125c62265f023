use Rattle.std.proofs.Common.{◌≡◌, ◌-◌, ◌++◌, take, drop}
use Rattle.std.specs.List.{concat}
use Rattle.tclv_engine.specs.Answers.{SameState}
use Rattle.tclv_plain.proofs.variable_commands.append_places.Given as goal

-- The texts before the place are behind the text, and nothing else changed.
abbrev pub invariant-loop-i : goal.invariant-loop-i
invariant-loop-i g l = record {
  text : l.text ≡ l.fn.text ++ concat (take (l.i - l.from) (drop l.from l.fn.machine.values.store.stack));
  same : SameState l.fn.machine l.machine;
  stack : l.machine.values.store.stack ≡ l.fn.machine.values.store.stack;
}
