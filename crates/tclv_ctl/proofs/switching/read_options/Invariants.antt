use Rattle.std.proofs.Common.{◌≡◌, drop}
use Rattle.tclv_value.specs.Changes.{KeepsTexts}
use Rattle.tclv_ctl.specs.Switching.{options, plain, manner_of}
use Rattle.tclv_ctl.proofs.switching.read_options.Given as goal

abbrev pub invariant-loop-at : goal.invariant-loop-at
invariant-loop-at l = let s = l.initial.store.stack in record { kept : KeepsTexts l.initial.store l.store; came : options plain (drop l.first s) ≡ options (manner_of l.asked) (drop l.at s) }
