use Rattle.tclv_exprp.proofs.FloatingLemmas.{floating_longest}
use Rattle.tclv_exprp.proofs.WholeLemmas.{whole_longest}
use Rattle.tclv_exprp.proofs.laws.numbers_are_longest.Goals as goal

pub returns : goal.returns
returns c t = record { whole = whole_longest t; floating = floating_longest t }
