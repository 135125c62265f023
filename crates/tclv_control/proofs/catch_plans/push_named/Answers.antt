use Rattle.std.proofs.Common.{ap, ◌∙◌, [], ◌∷◌, ◌++◌, ◌-◌}
use Rattle.tclv_engine.proofs.SettingLemmas.{on-ok}
use Rattle.tclv_control.proofs.CatchLemmas.{named_pushed}
use Rattle.tclv_control.proofs.catch_plans.push_named.Goals as goal

pub returns-clause-pushed : goal.returns-clause-pushed
returns-clause-pushed g c =
    let stack = c.args.machine.now.values.store.stack in
    on-ok c.push_copy.result
    (λ h. named_pushed stack c.push_text.new.self.store.stack c.push_copy.new.self.store.stack c.args.name.now _ c.requires (ap (λ n. n - 1) c.height-last.ensures)
    (c.in_ok-push_text.ensures.pushed ∙ ap (λ t. stack ++ t ∷ []) c.bytes.ensures.text) h)
    c.push_copy.ensures.pushed
