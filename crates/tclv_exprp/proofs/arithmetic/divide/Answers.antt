use Rattle.std.proofs.Common.{◌≡◌, ◌∙◌, Err}
use Rattle.tclv_exprp.specs.declared.operators.OpFault.TheVariants.{DivideByZero}
use Rattle.tclv_exprp.specs.Operators.{divide}
use Rattle.tclv_exprp.proofs.IntegerLemmas.{real2, divide_zero, divide_same, divide_apart}
use Rattle.tclv_exprp.proofs.arithmetic.divide.Goals as goal

pub returns-then-y-eq0 : goal.returns-then-y-eq0
returns-then-y-eq0 c = real2 (λ a b. Err DivideByZero ≡ divide a b) _ _ c.ranges.a c.ranges.b (divide_zero _ _ _ c.unsigned_abs-y.ensures.value c.if-y-eq0.true)

pub returns-then-a-b : goal.returns-then-a-b
returns-then-a-b c = real2 (λ a b. c.positive.result ≡ divide a b) _ _ c.ranges.a c.ranges.b (c.positive.ensures ∙ divide_same _ _ _ _ c.unsigned_abs-x.ensures.value c.unsigned_abs-y.ensures.value c.if-y-eq0.false c.if-a-b.true)

pub returns-else-a-b : goal.returns-else-a-b
returns-else-a-b c = real2 (λ a b. c.negative.result ≡ divide a b) _ _ c.ranges.a c.ranges.b (c.negative.ensures ∙ divide_apart _ _ _ _ _ c.unsigned_abs-x.ensures.value c.unsigned_abs-y.ensures.value c.if-y-eq0.false c.if-a-b.false c.div_ceil.ensures)
