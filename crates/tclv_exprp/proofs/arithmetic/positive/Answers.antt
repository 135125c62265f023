use Rattle.std.proofs.Common.{◌∙◌, ap}
use Rattle.tclv_exprp.specs.Operators.{fit}
use Rattle.tclv_exprp.proofs.IntegerLemmas.{fit_of, zero_more}
use Rattle.tclv_exprp.proofs.arithmetic.positive.Goals as goal

pub returns : goal.returns
returns c = c.ok_or.ensures.value ∙ fit_of _ _ c.checked_add_unsigned.ensures ∙ ap fit (zero_more _)
