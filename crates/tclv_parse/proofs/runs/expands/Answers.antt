use Rattle.std.proofs.Common.{◌≡◌, true, false, not, ◌&&◌, ap, sym, ◌∙◌}
use Rattle.tclv_text.specs.Cursors.{sign}
use Rattle.tclv_parse.specs.Runs.{is_expansion_mark, ends_word, expands}
use Rattle.tclv_parse.proofs.RunLaws.{expands-is, mark-is}
use Rattle.tclv_parse.proofs.runs.expands.Goals as goal

pub returns-then-is_expansion_mark : goal.returns-then-is_expansion_mark
returns-then-is_expansion_mark c =
    let a = c.skip.new.self in
    let b = c.skip-2.new.self in
    let d = c.skip-3.new.self in
    let marked : is_expansion_mark (sign c.here-ahead.result) (sign a) (sign b) ≡ true = sym (mark-is c.peek-first.result c.peek-second.result c.peek-third.result c.here-ahead.result a b c.is_expansion_mark.result c.peek-first.ensures c.peek-second.ensures c.peek-third.ensures c.is_expansion_mark.ensures) ∙ c.if-is_expansion_mark.true in
    ap not (c.ends_word.ensures ∙ ap (ends_word c.args.inner) c.peek.ensures)
    ∙ ap (λ x. x && not (ends_word c.args.inner (sign d))) (sym marked)
    ∙ expands-is c.args.inner c.here-ahead.result a b d c.skip.ensures c.skip-2.ensures c.skip-3.ensures
    ∙ ap (expands c.args.inner) c.here-ahead.ensures

pub returns-else-is_expansion_mark : goal.returns-else-is_expansion_mark
returns-else-is_expansion_mark c =
    let a = c.skip.new.self in
    let b = c.skip-2.new.self in
    let d = c.skip-3.new.self in
    let marked : is_expansion_mark (sign c.here-ahead.result) (sign a) (sign b) ≡ false = sym (mark-is c.peek-first.result c.peek-second.result c.peek-third.result c.here-ahead.result a b c.is_expansion_mark.result c.peek-first.ensures c.peek-second.ensures c.peek-third.ensures c.is_expansion_mark.ensures) ∙ c.if-is_expansion_mark.false in
    c.if-is_expansion_mark.false
    ∙ ap (λ x. x && not (ends_word c.args.inner (sign d))) (sym marked)
    ∙ expands-is c.args.inner c.here-ahead.result a b d c.skip.ensures c.skip-2.ensures c.skip-3.ensures
    ∙ ap (expands c.args.inner) c.here-ahead.ensures
