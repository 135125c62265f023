use Rattle.tclv_exprp.proofs.PowerLemmas.{bits_0, bits_1, bits_less, down_0, down_1, down_less, down_other}
use Rattle.tclv_exprp.proofs.arithmetic.power_down.Goals as goal

pub returns-then-a-eq0 : goal.returns-then-a-eq0
returns-then-a-eq0 c = down_0 _ _ (bits_0 _ c.ranges.a c.if-a-eq0.true)

pub returns-then-a-eq1 : goal.returns-then-a-eq1
returns-then-a-eq1 c = down_1 _ _ (bits_1 _ c.ranges.a c.if-a-eq1.true)

pub returns-then-a-eqminus1 : goal.returns-then-a-eqminus1
returns-then-a-eqminus1 c = down_less _ _ _ c.sign_power.ensures (bits_less _ c.ranges.a c.if-a-eqminus1.true)

pub returns : goal.returns
returns c = down_other c.args.a c.args.n c.if-a-eq0.false c.if-a-eq1.false c.if-a-eqminus1.false
