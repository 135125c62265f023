use Rattle.std.proofs.Common.{refl}
use Rattle.tclv_control.proofs.ErrorLemmas.{raised_with}
use Rattle.tclv_control.proofs.error_plans.raise_bare.Goals as goal

pub returns-clause-raises : goal.returns-clause-raises
returns-clause-raises g c = raised_with c.no_code-code.result _ _ _ c.raise_text.new.machine.values.store.stack c.raise_text.result refl c.no_code-code.ensures c.raise_text.ensures.raises
