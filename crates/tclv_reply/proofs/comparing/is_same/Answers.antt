use Rattle.std.proofs.Common.{◌∙◌, ap, Bool, sym}
use Rattle.std.specs.Str.{chars, bytes_eq}
use Rattle.tclv_text.specs.Globs.{folded}
use Rattle.tclv_reply.proofs.FoldLemmas.{same_folded, same_unfolded}
use Rattle.tclv_reply.proofs.comparing.is_same.Goals as goal

pub returns-then-nocase : goal.returns-then-nocase
returns-then-nocase c =
    let a = c.args.one.now in
    let b = c.args.other.now in
    c.are_same_in_any_case.ensures ∙ same_folded a b c.requires.one c.requires.other ∙ ap (λ (n : Bool). bytes_eq (folded n (chars a)) (folded n (chars b))) (sym c.if-nocase.true)

pub returns-else-nocase : goal.returns-else-nocase
returns-else-nocase c =
    let a = c.args.one.now in
    let b = c.args.other.now in
    c.are_same.ensures ∙ same_unfolded a b c.requires.one c.requires.other ∙ ap (λ (n : Bool). bytes_eq (folded n (chars a)) (folded n (chars b))) (sym c.if-nocase.false)
