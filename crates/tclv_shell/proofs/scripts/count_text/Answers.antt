use Rattle.std.proofs.Common.{◌++◌, ◌∙◌, ap, sym, subst, w64, to_z}
use Rattle.std.specs.Str.{chars}
use Rattle.std.proofs.lemmas.Int.{to_z_pos}
use Rattle.std.proofs.lemmas.Str.{IsUtf8-nil, chars-nil}
use Rattle.tclv_text.specs.Texts.{IsText}
use Rattle.tclv_text.specs.Numbers.{whole_text}
use Rattle.tclv_shell.proofs.scripts.count_text.Goals as goal

pub returns : goal.returns
returns c =
    let none = subst IsText (sym c.new-text.ensures.items) (record { utf8 = IsUtf8-nil }) in
    let number = whole_text (to_z w64 c.args.count) in
    c.new.ensures
    ∙ (c.in_ok-whole_text.ensures.text none).1
    ∙ ap (λ bytes. chars bytes ++ number) c.new-text.ensures.items
    ∙ ap (λ cs. cs ++ number) chars-nil
    ∙ ap whole_text (to_z_pos w64 c.args.count c.requires)
