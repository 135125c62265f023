use Rattle.std.proofs.Common.{◌≡◌, ◌++◌, drop}
use Rattle.tclv_engine.specs.Answers.{SameState}
use Rattle.tclv_control.specs.Outcomes.{option_words}
use Rattle.tclv_control.proofs.catch_plans.push_pairs.Given as goal

-- The words of the pairs before a number were pushed.
abbrev pub invariant-loop-k : goal.invariant-loop-k
invariant-loop-k g l = record {
  pushed : l.fn.machine.values.store.stack ++ option_words l.pairs ≡ l.machine.values.store.stack ++ option_words (drop l.k l.pairs);
  same : SameState l.fn.machine l.machine;
}
