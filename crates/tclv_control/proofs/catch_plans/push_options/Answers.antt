use Rattle.std.proofs.Common.{ap, ◌∙◌, [], ◌∷◌, ◌++◌}
use Rattle.tclv_text.specs.Quotes.{list_text}
use Rattle.tclv_engine.proofs.SettingLemmas.{on-ok}
use Rattle.tclv_control.specs.Outcomes.{option_words}
use Rattle.tclv_control.proofs.catch_plans.push_options.Goals as goal

pub returns-clause-pushed : goal.returns-clause-pushed
returns-clause-pushed g c =
    let stack = c.args.machine.now.values.store.stack in
    on-ok c.push_dict.result (λ h. h ∙ ap (λ os. stack ++ list_text (option_words os) ∷ []) (c.all.ensures ∙ c.in_ok-options.ensures)) c.push_dict.ensures.pushed
