use Rattle.std.proofs.Common.{◌≡◌, ◌∙◌}
use Rattle.tclv_exprp.specs.Operators.{power_up}
use Rattle.tclv_exprp.proofs.IntegerLemmas.{real1, fit_of}
use Rattle.tclv_exprp.proofs.PowerLemmas.{bits_0, bits_1, bits_less, up_0, up_1, up_less, up_other}
use Rattle.tclv_exprp.proofs.arithmetic.power_up.Goals as goal

pub returns-then-n-lt64 : goal.returns-then-n-lt64
unfolding power_up
returns-then-n-lt64 c = real1 (λ a. c.ok_or.result ≡ power_up a c.args.n) _ c.ranges.a (c.ok_or.ensures.value ∙ fit_of _ _ c.checked_pow.ensures)

pub returns-then-a-eq0 : goal.returns-then-a-eq0
returns-then-a-eq0 c = up_0 _ _ c.if-n-lt64.false (bits_0 _ c.ranges.a c.if-a-eq0.true)

pub returns-then-a-eq1 : goal.returns-then-a-eq1
returns-then-a-eq1 c = up_1 _ _ (bits_1 _ c.ranges.a c.if-a-eq1.true)

pub returns-then-a-eqminus1 : goal.returns-then-a-eqminus1
returns-then-a-eqminus1 c = up_less _ _ _ c.sign_power.ensures (bits_less _ c.ranges.a c.if-a-eqminus1.true)

pub returns : goal.returns
returns c = up_other c.args.a c.args.n c.if-n-lt64.false c.if-a-eq0.false c.if-a-eq1.false c.if-a-eqminus1.false
