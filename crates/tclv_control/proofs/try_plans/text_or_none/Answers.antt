use Rattle.std.proofs.Common.{sym, ap, ◌∙◌, Some, None}
use Rattle.std.specs.Option.{option_map}
use Rattle.tclv_engine.specs.Plans.{placed}
use Rattle.tclv_control.proofs.try_plans.text_or_none.Goals as goal

pub returns-in_ok-text_of-in-Some-clause-text : goal.returns-in_ok-text_of-in-Some-clause-text
returns-in_ok-text_of-in-Some-clause-text g c = ap (λ t. Some t) c.in_ok-text_of-in-Some.ensures.text ∙ sym (ap (option_map (placed c.args.machine.now.values.store.stack)) c.in-Some.is)

pub returns-in-None-clause-text : goal.returns-in-None-clause-text
returns-in-None-clause-text g c = sym (ap (option_map (placed c.args.machine.now.values.store.stack)) c.in-None.is)
