use Rattle.std.proofs.Common.{◌≡◌, ◌∙◌, Err, Ok, ℤ, ap, w64}
use Rattle.tclv_exprp.specs.declared.operators.OpFault.TheVariants.{NegativeShift}
use Rattle.tclv_exprp.specs.Operators.{Answer, shift_right}
use Rattle.tclv_exprp.proofs.IntegerLemmas.{real2}
use Rattle.std.proofs.lemmas.Int.{to_z-of_z}
use Rattle.tclv_exprp.proofs.ShiftLemmas.{right_negative, right_above}
use Rattle.tclv_exprp.proofs.arithmetic.shift_right.Goals as goal

pub returns-then-b-lt0 : goal.returns-then-b-lt0
returns-then-b-lt0 c = real2 (λ a b. Err NegativeShift ≡ shift_right a b) _ _ c.ranges.a c.ranges.b (right_negative _ _ c.if-b-lt0.true)

pub returns-else-b-lt0 : goal.returns-else-b-lt0
returns-else-b-lt0 c = ap (λ (z : ℤ). let x : Answer = Ok z in x) (to_z-of_z w64 c.shift_right_by.result (record { sfits = c.shift_right_by.type_inv })) ∙ real2 (λ a b. Ok c.shift_right_by.result ≡ shift_right a b) _ _ c.ranges.a c.ranges.b (ap (λ (z : ℤ). let x : Answer = Ok z in x) c.shift_right_by.ensures ∙ right_above _ _ _ c.if-b-lt0.false c.unsigned_abs-n.ensures.value)
