use Rattle.std.proofs.Common.{◌≡◌, ◌++◌, ◌∙◌, ap, sym, subst, arith, to_z, of_z, w32, w64}
use Rattle.std.specs.Str.{chars}
use Rattle.std.proofs.lemmas.Int.{ints}
use Rattle.std.proofs.lemmas.Str.{IsUtf8-nil, chars-nil}
use Rattle.tclv_text.specs.Numbers.{whole_text}
use Rattle.tclv_text.specs.Texts.{IsText}
use Rattle.tclv_engine.specs.Results.{code_text}
use Rattle.tclv_control.proofs.CodeNumberLemmas.{text_of_number}
use Rattle.tclv_control.proofs.outcomes.number_text.Goals as goal

pub returns : goal.returns
returns c =
    let none = subst IsText (sym c.new-text.ensures.items) (record { utf8 = IsUtf8-nil }) in
    let number = code_text c.args.code in
    let same : to_z w64 (of_z w64 c.from.result) ≡ c.from.result = omega (arith, ints) in
    let short : to_z w32 (of_z w32 c.number.result) ≡ c.number.result = omega (arith, ints) in
    c.new.ensures
    ∙ (c.in_ok-whole_text.ensures.text none).1
    ∙ ap (λ cs. chars c.new-text.result.items ++ cs) (ap whole_text (same ∙ c.from.ensures ∙ short ∙ c.number.ensures) ∙ text_of_number c.args.code)
    ∙ ap (λ bytes. chars bytes ++ number) c.new-text.ensures.items
    ∙ ap (λ cs. cs ++ number) chars-nil
