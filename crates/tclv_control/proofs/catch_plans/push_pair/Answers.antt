use Rattle.std.proofs.Common.{ap, ◌∙◌, [], ◌∷◌, ◌++◌}
use Rattle.tclv_engine.proofs.SettingLemmas.{on-ok}
use Rattle.tclv_control.proofs.CatchLemmas.{pushed_twice}
use Rattle.tclv_control.proofs.catch_plans.push_pair.Goals as goal

pub returns-clause-pushed : goal.returns-clause-pushed
returns-clause-pushed g c =
    let stack = c.args.machine.now.values.store.stack in
    let mid = c.push_text.new.self.store.stack in
    on-ok c.push_text-2.result
    (λ h. pushed_twice stack mid c.push_text-2.new.self.store.stack c.args.pair.now.key c.args.pair.now.value
    (c.in_ok-push_text.ensures.pushed ∙ ap (λ t. stack ++ t ∷ []) c.bytes.ensures.text) (h ∙ ap (λ t. mid ++ t ∷ []) c.bytes-2.ensures.text))
    c.push_text-2.ensures.pushed
