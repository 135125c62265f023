use Rattle.std.proofs.Common.{◌≡◌, ◌∙◌}
use Rattle.tclv_exprp.specs.Operators.{power}
use Rattle.tclv_exprp.proofs.IntegerLemmas.{real2}
use Rattle.tclv_exprp.proofs.PowerLemmas.{power_below, power_above}
use Rattle.tclv_exprp.proofs.arithmetic.power.Goals as goal

pub returns-then-b-lt0 : goal.returns-then-b-lt0
returns-then-b-lt0 c = real2 (λ a b. c.power_down.result ≡ power a b) _ _ c.ranges.a c.ranges.b (c.power_down.ensures ∙ power_below _ _ _ c.if-b-lt0.true c.unsigned_abs-n.ensures.value)

pub returns-else-b-lt0 : goal.returns-else-b-lt0
returns-else-b-lt0 c = real2 (λ a b. c.power_up.result ≡ power a b) _ _ c.ranges.a c.ranges.b (c.power_up.ensures ∙ power_above _ _ _ c.if-b-lt0.false c.unsigned_abs-n.ensures.value)
