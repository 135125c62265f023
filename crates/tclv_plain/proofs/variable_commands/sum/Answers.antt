use Rattle.std.proofs.Common.{◌≡◌, ◌+ℤ◌, cond, Some, None}
use Rattle.tclv_plain.specs.VariableRows.{fits}
use Rattle.tclv_plain.proofs.VariableRowLemmas.{sum_is, real2}
use Rattle.tclv_plain.proofs.variable_commands.sum.Goals as goal

pub returns : goal.returns
returns c = real2 (λ a b. c.checked_add.result ≡ cond (fits (a +ℤ b)) (Some (a +ℤ b)) None) _ _ c.ranges.a c.ranges.b (sum_is _ _ c.checked_add.ensures)
