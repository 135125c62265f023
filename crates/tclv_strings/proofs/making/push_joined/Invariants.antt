use Rattle.std.proofs.Common.{◌≡◌, ◌-◌, take, drop}
use Rattle.std.specs.List.{concat}
use Rattle.tclv_value.specs.Changes.{KeepsTexts}
use Rattle.tclv_strings.proofs.making.push_joined.Given as goal

abbrev pub invariant-loop-at : goal.invariant-loop-at
invariant-loop-at l = record { kept : KeepsTexts l.initial.store l.store; text : l.text ≡ concat (take (l.at - l.from) (drop l.from l.initial.store.stack)) }
