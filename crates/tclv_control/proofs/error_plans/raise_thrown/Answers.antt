use Rattle.std.proofs.Common.{rules, ◌≡◌}
use Rattle.tclv_control.proofs.ErrorLemmas.{thrown_none, thrown_some}
use Rattle.tclv_control.proofs.error_plans.raise_thrown.Goals as goal

pub returns-then-len-eq0-clause-raises : goal.returns-then-len-eq0-clause-raises
returns-then-len-eq0-clause-raises g c = thrown_none c.args.len _ _ c.raise.new.self.values.store.stack c.raise.result (search rules) c.raise.ensures.raises

pub returns-else-len-eq0-clause-raises : goal.returns-else-len-eq0-clause-raises
returns-else-len-eq0-clause-raises g c = thrown_some c.args.len _ _ c.raise_both.new.machine.values.store.stack c.raise_both.result (λ e. search (rules, e)) c.raise_both.ensures.raises
