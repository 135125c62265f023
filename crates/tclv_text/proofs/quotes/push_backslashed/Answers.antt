use Rattle.std.proofs.Common.{◌++◌, ap, sym, ◌∙◌, get_or, drop, ◌+◌}
use Rattle.std.proofs.lemmas.List.{append_assoc, at_drop_more}
use Rattle.tclv_text.specs.Quotes.{backslashed, backslash_mark, with_mark}
use Rattle.tclv_text.proofs.quotes.push_backslashed.Goals as goal

pub loop-b-preserved : goal.loop-b-preserved
loop-b-preserved c =
    let inv = c.loop-b.invariant in
    let t = c.args.text.now in
    let i = c.loop-b.b-index in
    let x = get_or t i 0 in
    let b = c.args.full in
    let w = with_mark x (backslash_mark b x) in
    let pushed = c.in_ok-push_marked.ensures.ok ∙ ap (λ m. c.loop-b.out.items ++ with_mark x m) c.backslash_mark.ensures in (
      inv.0 ++ w,
      pushed ∙ ap (λ xs. xs ++ w) inv.1 ∙ append_assoc c.args.out.now.items inv.0 w,
      append_assoc inv.0 w (backslashed b (drop (i + 1) t)) ∙ ap (λ xs. inv.0 ++ xs) (sym (at_drop_more (backslashed b) t i 0 c.loop-b-test.true)) ∙ inv.2,
    )
