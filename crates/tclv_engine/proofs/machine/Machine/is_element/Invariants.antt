use Rattle.std.proofs.Common.{◌≡◌, drop}
use Rattle.tclv_value.specs.View.{View, StaysMade, text_at}
use Rattle.tclv_engine.specs.Answers.{SameState}
use Rattle.tclv_engine.specs.Operations.{is_among}
use Rattle.tclv_engine.specs.ListAssignment.{listed}
use Rattle.tclv_engine.proofs.machine.Machine.is_element.Given as goal

-- None of the elements before the number is the text.
abbrev pub invariant-loop-k : goal.invariant-loop-k
invariant-loop-k g l = record {
  found : is_among (text_at l.fn.self.values.store l.text) (listed (text_at l.fn.self.values.store l.list)) ≡ is_among (text_at l.fn.self.values.store l.text) (drop l.k (listed (text_at l.fn.self.values.store l.list)));
  stack : l.self.values.store.stack ≡ l.fn.self.values.store.stack;
  stays : StaysMade l.fn.self.values.store l.self.values.store;
  same : SameState l.fn.self l.self;
}
