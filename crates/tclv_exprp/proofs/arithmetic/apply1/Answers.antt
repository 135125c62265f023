use Rattle.std.proofs.Common.{◌≡◌, ◌∙◌, ap, sym, Ok, ℤ}
use Rattle.tclv_exprp.specs.Operators.{Answer, apply1, fit}
use Rattle.tclv_exprp.proofs.IntegerLemmas.{real1, fit_of}
use Rattle.tclv_exprp.proofs.PowerLemmas.{inverted}
use Rattle.std.specs.Prelude.{neg_ℤ}
use Rattle.tclv_exprp.proofs.arithmetic.apply1.Goals as goal

pub returns-in-Minus : goal.returns-in-Minus
returns-in-Minus c = real1 (λ a. c.ok_or.result ≡ fit (neg_ℤ a)) _ c.ranges.a (c.ok_or.ensures.value ∙ fit_of _ _ c.checked_neg.ensures) ∙ ap (λ o. apply1 o c.args.a) (sym c.in-Minus.is)

pub returns-in-Invert : goal.returns-in-Invert
returns-in-Invert c = ap (λ (z : ℤ). let x : Answer = Ok z in x) (inverted c.args.a c.ranges.a) ∙ ap (λ o. apply1 o c.args.a) (sym c.in-Invert.is)
