use Rattle.std.proofs.Common.{[], ◌∷◌, ◌++◌, ap, ◌∙◌}
use Rattle.std.specs.Str.{chars}
use Rattle.std.specs.Prelude.{codes}
use Rattle.tclv_engine.specs.Results.{option}
use Rattle.tclv_control.specs.ReturnRows.{first_options}
use Rattle.tclv_control.proofs.return_plans.first_options.Goals as goal

pub returns : goal.returns
unfolding chars
returns c = c.in_ok-push-2.ensures.ok ∙ ap (λ xs. xs ++ c.in_ok-option_of-2.field-0 ∷ []) (c.in_ok-push.ensures.ok ∙ ap (λ xs. xs ++ c.in_ok-option_of.field-0 ∷ []) c.new-options.ensures)
    ∙ ap (λ p. p ∷ c.in_ok-option_of-2.field-0 ∷ []) c.in_ok-option_of.ensures ∙ ap (λ p. option (codes "-code") (chars c.bytes.result.now) ∷ p ∷ []) c.in_ok-option_of-2.ensures
    ∙ ap (λ t. option (codes "-code") t ∷ option (codes "-level") (chars c.bytes-2.result.now) ∷ []) (c.bytes.ensures.text ∙ c.in_ok-number.ensures)
    ∙ ap (first_options c.args.code) c.bytes-2.ensures.text
