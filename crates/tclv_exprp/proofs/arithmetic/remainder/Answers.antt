use Rattle.std.proofs.Common.{◌≡◌, ◌∙◌, Err}
use Rattle.tclv_exprp.specs.declared.operators.OpFault.TheVariants.{DivideByZero}
use Rattle.tclv_exprp.specs.Operators.{remainder}
use Rattle.tclv_exprp.proofs.IntegerLemmas.{real2, remainder_zero, remainder_is}
use Rattle.tclv_exprp.proofs.arithmetic.remainder.Goals as goal

pub returns-then-y-eq0 : goal.returns-then-y-eq0
returns-then-y-eq0 c = real2 (λ a b. Err DivideByZero ≡ remainder a b) _ _ c.ranges.a c.ranges.b (remainder_zero _ _ _ c.unsigned_abs-y.ensures.value c.if-y-eq0.true)

pub returns : goal.returns
returns c = real2 (λ a b. c.sized.result ≡ remainder a b) _ _ c.ranges.a c.ranges.b (c.sized.ensures ∙ remainder_is _ _ _ _ _ c.unsigned_abs.ensures.value c.unsigned_abs-y.ensures.value c.if-y-eq0.false c.rest.ensures)
