use Rattle.std.proofs.Common.{ap, ◌∙◌, [], ◌∷◌, ◌++◌}
use Rattle.std.proofs.lemmas.List.{append_assoc}
use Rattle.tclv_engine.proofs.SettingLemmas.{on-ok}
use Rattle.tclv_control.proofs.try_plans.push_call.Goals as goal

pub returns-clause-pushed : goal.returns-clause-pushed
returns-clause-pushed g c =
    let stack = c.args.machine.now.values.store.stack in
    let call = c.args.call.now in
    let words = c.args.words.now in
    on-ok c.push_words.result
    (λ h. h ∙ ap (λ s. s ++ words) (c.in_ok-push_text.ensures.pushed ∙ ap (λ t. stack ++ t ∷ []) c.bytes.ensures.text) ∙ append_assoc stack (call ∷ []) words)
    c.push_words.ensures.pushed
