use Rattle.std.proofs.Common.{◌≡◌, ◌∙◌, Err}
use Rattle.tclv_exprp.specs.declared.operators.OpFault.TheVariants.{TooLarge}
use Rattle.tclv_exprp.specs.Operators.{shift_left_by}
use Rattle.tclv_exprp.proofs.IntegerLemmas.{real1}
use Rattle.tclv_exprp.proofs.PowerLemmas.{bits_0}
use Rattle.tclv_exprp.proofs.ShiftLemmas.{left_is, left_none, left_some, left_nothing, left_far}
use Rattle.tclv_exprp.proofs.arithmetic.shift_left_by.Goals as goal

pub returns-then-a-eq0 : goal.returns-then-a-eq0
returns-then-a-eq0 c = left_nothing _ _ (bits_0 _ c.ranges.a c.if-a-eq0.true)

pub returns-else-a-eq0 : goal.returns-else-a-eq0
returns-else-a-eq0 c = left_far c.args.a c.args.n c.if-n-gt63.true c.if-a-eq0.false

pub returns-in-Some : goal.returns-in-Some
returns-in-Some c = real1 (λ a. c.sized.result ≡ shift_left_by a c.args.n) _ c.ranges.a (c.sized.ensures ∙ left_is _ _ _ _ _ c.unsigned_abs.ensures.value c.two_to.ensures (left_some _ _ _ _ c.in-Some.is c.checked_mul.ensures))

pub returns-in-None : goal.returns-in-None
returns-in-None c = real1 (λ a. Err TooLarge ≡ shift_left_by a c.args.n) _ c.ranges.a (left_none _ _ _ _ _ c.unsigned_abs.ensures.value c.two_to.ensures c.in-None.is c.checked_mul.ensures)
