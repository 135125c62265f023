use Rattle.std.proofs.Common.{◌≡◌, [], ◌∷◌, ◌++◌, ap, subst, ◌∙◌}
use Rattle.std.specs.Int.{w64}
use Rattle.std.specs.Str.{chars}
use Rattle.std.proofs.lemmas.Int.{to_z-of_z}
use Rattle.tclv_text.specs.Numbers.{whole_text}
use Rattle.tclv_value.specs.Elements.{IsListText}
use Rattle.tclv_value.proofs.AnswerLemmas.{on_ok}
use Rattle.tclv_value.proofs.ElementLemmas.{unescaped}
use Rattle.tclv_value.proofs.sequences.add_number.Goals as goal

pub returns : goal.returns
returns c =
    let text : chars c.as_slice.result.now ≡ whole_text c.args.n =
    ap chars c.as_slice.ensures.value ∙ unescaped c.new-text.result.items c.whole_text.new.out.items _ c.new-text.ensures.items c.in_ok-whole_text.ensures.text ∙ ap whole_text (to_z-of_z w64 c.args.n c.ranges.n) in
    on_ok c.add_element.result (λ more ts is. subst (λ x. IsListText (ts ++ x ∷ []) c.add_element.new.list.items) text (more ts is)) c.add_element.ensures
