use Rattle.std.proofs.Common.{◌≡◌, drop}
use Rattle.tclv_control.specs.TryRows.{error_code_of}
use Rattle.tclv_control.proofs.try_plans.error_code_of.Given as goal

-- No option before a number is the error code.
abbrev pub invariant-loop-k : goal.invariant-loop-k
invariant-loop-k l = error_code_of (drop l.k l.options) ≡ error_code_of l.options
