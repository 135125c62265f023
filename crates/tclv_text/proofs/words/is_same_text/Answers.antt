use Rattle.std.proofs.Common.{◌∙◌, ap, Bool, sym}
use Rattle.std.specs.Str.{chars, bytes_eq}
use Rattle.tclv_text.specs.Globs.{folded}
use Rattle.tclv_text.proofs.FoldLemmas.{same_folded, same_unfolded}
use Rattle.tclv_text.proofs.words.is_same_text.Goals as goal

pub returns-then-nocase : goal.returns-then-nocase
returns-then-nocase c =
    let a = c.args.one.now in
    let b = c.args.other.now in
    c.is_word.ensures ∙ same_folded a b c.requires.one c.requires.other ∙ ap (λ (n : Bool). bytes_eq (folded n (chars a)) (folded n (chars b))) (sym c.if-nocase.true)

pub returns-else-nocase : goal.returns-else-nocase
returns-else-nocase c =
    let a = c.args.one.now in
    let b = c.args.other.now in
    c.eq.ensures ∙ same_unfolded a b c.requires.one c.requires.other ∙ ap (λ (n : Bool). bytes_eq (folded n (chars a)) (folded n (chars b))) (sym c.if-nocase.false)
