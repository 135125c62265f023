use Rattle.std.proofs.Common.{◌≡◌, ◌-◌, take, drop}
use Rattle.tclv_value.specs.Changes.{KeepsTexts}
use Rattle.tclv_lists.specs.Joining.{concatenated}
use Rattle.tclv_lists.proofs.joining.push_concatenated.Given as goal

abbrev pub invariant-loop-at : goal.invariant-loop-at
invariant-loop-at l = record { kept : KeepsTexts l.initial.store l.store; text : l.text ≡ concatenated (take (l.at - l.from) (drop l.from l.initial.store.stack)) }
