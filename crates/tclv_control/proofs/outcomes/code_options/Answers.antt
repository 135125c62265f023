use Rattle.std.proofs.Common.{[], ◌∷◌, ◌++◌, ap, ◌∙◌}
use Rattle.std.specs.Str.{chars}
use Rattle.tclv_control.proofs.outcomes.code_options.Goals as goal
use Rattle.tclv_engine.specs.Results.{option, code_options}
use Rattle.std.specs.Prelude.{codes}

pub returns : goal.returns
unfolding chars
returns c = c.in_ok-push-2.ensures.ok ∙ ap (λ xs. xs ++ c.in_ok-option_of-2.field-0 ∷ []) (c.in_ok-push.ensures.ok ∙ ap (λ xs. xs ++ c.in_ok-option_of.field-0 ∷ []) c.new-options.ensures)
    ∙ ap (λ p. p ∷ c.in_ok-option_of-2.field-0 ∷ []) c.in_ok-option_of.ensures ∙ ap (λ p. option (codes "-code") (chars c.bytes.result.now) ∷ p ∷ []) c.in_ok-option_of-2.ensures
    ∙ ap code_options (c.bytes.ensures.text ∙ c.in_ok-number.ensures)
