use Rattle.std.proofs.Common.{ap}
use Rattle.tclv_engine.specs.Plans.{placed}
use Rattle.tclv_control.proofs.ErrorLemmas.{raised_with}
use Rattle.tclv_control.proofs.error_plans.raise_both.Goals as goal

pub returns-clause-raises : goal.returns-clause-raises
returns-clause-raises g c =
    raised_with c.text_of-code.result _ _ _ c.raise_text.new.machine.values.store.stack c.raise_text.result (ap (λ s. placed s c.args.message) c.text_of-code.ensures.stack) c.text_of-code.ensures.text c.raise_text.ensures.raises
