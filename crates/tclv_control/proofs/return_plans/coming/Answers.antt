use Rattle.std.proofs.Common.{rules}
use Rattle.tclv_control.proofs.ReturnLemmas.{coming_zero, coming_some}
use Rattle.tclv_control.proofs.return_plans.coming.Goals as goal

pub returns-then-level-eq0 : goal.returns-then-level-eq0
returns-then-level-eq0 c = coming_zero c.args.level c.args.code (search rules)

pub returns-else-level-eq0 : goal.returns-else-level-eq0
returns-else-level-eq0 c = coming_some c.args.level c.args.code (λ e. search (rules, e))
