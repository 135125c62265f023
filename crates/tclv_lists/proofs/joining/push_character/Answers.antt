use Rattle.std.proofs.Common.{List, ℕ, [], ◌∷◌, ◌++◌, ap, ◌∙◌}
use Rattle.std.specs.Str.{chars}
use Rattle.std.proofs.lemmas.Str.{chars-nil}
use Rattle.tclv_reply.proofs.Laws.{pushed_as}
use Rattle.tclv_lists.proofs.joining.push_character.Goals as goal

pub returns-clause-pushed : goal.returns-clause-pushed
returns-clause-pushed c =
    pushed_as c.push_bytes.result c.args.store.now c.push_bytes.new.store _ _
    (c.bytes.ensures.text ∙ c.in_ok-add_character.ensures ∙ ap (λ (t : List ℕ). t ++ c.args.c ∷ []) (c.new-text.ensures ∙ ap chars c.new.ensures.items ∙ chars-nil))
    c.push_bytes.ensures.pushed
