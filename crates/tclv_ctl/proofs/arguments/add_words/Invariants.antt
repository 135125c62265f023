use Rattle.std.proofs.Common.{◌≡◌, ◌-◌, ◌++◌, take, drop}
use Rattle.std.specs.List.{flat_map}
use Rattle.tclv_value.specs.Changes.{KeepsTexts}
use Rattle.tclv_ctl.proofs.UsageLemmas.{behind_space}
use Rattle.tclv_ctl.proofs.arguments.add_words.Given as goal

-- So many words are added.
abbrev pub invariant-loop-at : goal.invariant-loop-at
invariant-loop-at l =
    let s = l.initial.store.stack in record { kept : KeepsTexts l.initial.store l.store; added : l.text ≡ l.initial.text ++ flat_map behind_space (take (l.at - l.from) (drop l.from s)) }
