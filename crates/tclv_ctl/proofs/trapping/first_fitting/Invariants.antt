use Rattle.std.proofs.Common.{◌≡◌, drop, map}
use Rattle.tclv_value.specs.Changes.{KeepsTexts}
use Rattle.tclv_ctl.specs.Handlers.{first_fitting, handler_in}
use Rattle.tclv_ctl.proofs.trapping.first_fitting.Given as goal

-- So many handlers don't fit.
abbrev pub invariant-loop-k : goal.invariant-loop-k
invariant-loop-k l =
    let s = l.initial.store.stack in
    record { kept : KeepsTexts l.initial.store l.store; came : first_fitting l.code l.words (map (handler_in s) l.handlers) ≡ first_fitting l.code l.words (map (handler_in s) (drop l.k l.handlers)) }
