use Rattle.std.proofs.Common.{◌≡◌, drop}
use Rattle.tclv_io.specs.Plan.{failing}
use Rattle.tclv_io.proofs.plan.failing.Given as goal

abbrev pub invariant-loop-number : goal.invariant-loop-number
invariant-loop-number l = failing (drop l.number-index l.fails) l.call ≡ failing l.fails l.call
