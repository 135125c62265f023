use Rattle.std.proofs.Common.{◌≡◌, ◌-◌, ◌++◌, take, drop}
use Rattle.tclv_value.specs.View.{text_at}
use Rattle.tclv_value.specs.declared.places.At.TheVariants.{Stack}
use Rattle.tclv_engine.specs.Answers.{SameState}
use Rattle.tclv_engine.specs.ListAssignment.{listed}
use Rattle.tclv_engine.proofs.machine.Machine.push_elements.Given as goal

-- The elements before the number were pushed.
abbrev pub invariant-loop-i : goal.invariant-loop-i
invariant-loop-i g l = record {
  pushed : l.self.values.store.stack ≡ l.fn.self.values.store.stack ++ take (l.i - l.from) (drop l.from (listed (text_at l.fn.self.values.store (Stack l.list))));
  same : SameState l.fn.self l.self;
}
