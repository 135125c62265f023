use Rattle.std.proofs.Common.{◌≡◌, ◌∙◌, ◌++◌, [], List, ℕ, subst, ap}
use Rattle.std.specs.Str.{chars}
use Rattle.std.proofs.lemmas.Str.{chars-nil, IsUtf8-nil}
use Rattle.tclv_text.specs.Texts.{IsText, AppendsText}
use Rattle.tclv_engine.proofs.messages.message_text.Goals as goal

-- what was put on no bytes
on-none : (old new cs : List ℕ) → old ≡ [] → AppendsText old new cs → IsText new × (chars new ≡ cs)
on-none old new cs none h =
    let put : AppendsText [] new cs = subst (λ x. AppendsText x new cs) none h in
    let all = put (record { utf8 = IsUtf8-nil }) in
    (all.0, all.1 ∙ ap (λ x. x ++ cs) chars-nil)

pub new-requires : goal.new-requires
new-requires c = (on-none _ _ _ c.new-text.ensures.items (c.in_ok-message.ensures.text c.requires.first c.requires.second)).0

pub returns : goal.returns
returns c = c.new.ensures ∙ (on-none _ _ _ c.new-text.ensures.items (c.in_ok-message.ensures.text c.requires.first c.requires.second)).1
