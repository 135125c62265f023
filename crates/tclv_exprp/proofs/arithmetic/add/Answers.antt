use Rattle.std.proofs.Common.{◌≡◌, ◌∙◌}
use Rattle.tclv_exprp.specs.Operators.{add}
use Rattle.tclv_exprp.proofs.IntegerLemmas.{fit_of, real2}
use Rattle.tclv_exprp.proofs.arithmetic.add.Goals as goal

pub returns : goal.returns
unfolding add
returns c = real2 (λ a b. c.ok_or.result ≡ add a b) _ _ c.ranges.a c.ranges.b (c.ok_or.ensures.value ∙ fit_of _ _ c.checked_add.ensures)
