use Rattle.std.proofs.Common.{◌≡◌, ◌∙◌, Err}
use Rattle.tclv_exprp.specs.declared.operators.OpFault.TheVariants.{NegativeShift}
use Rattle.tclv_exprp.specs.Operators.{shift_left}
use Rattle.tclv_exprp.proofs.IntegerLemmas.{real2}
use Rattle.tclv_exprp.proofs.ShiftLemmas.{left_negative, left_above}
use Rattle.tclv_exprp.proofs.arithmetic.shift_left.Goals as goal

pub returns-then-b-lt0 : goal.returns-then-b-lt0
returns-then-b-lt0 c = real2 (λ a b. Err NegativeShift ≡ shift_left a b) _ _ c.ranges.a c.ranges.b (left_negative _ _ c.if-b-lt0.true)

pub returns-else-b-lt0 : goal.returns-else-b-lt0
returns-else-b-lt0 c = real2 (λ a b. c.shift_left_by.result ≡ shift_left a b) _ _ c.ranges.a c.ranges.b (c.shift_left_by.ensures ∙ left_above _ _ _ c.if-b-lt0.false c.unsigned_abs-n.ensures.value)
