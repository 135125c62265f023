use Rattle.std.proofs.Common.{◌≡◌, ◌≤◌, ◌-◌, ◌∙◌, ℕ, [], length, get_or, ap, sym, arith}
use Rattle.tclv_value.specs.Stacks.{top}
use Rattle.tclv_reply.specs.Replies.{call_word}
use Rattle.tclv_lists.specs.Changing.{reversed_of, row_lreverse}
use Rattle.tclv_reply.proofs.Laws.{answered, answers_as, count_words, one_word}
use Rattle.tclv_lists.proofs.RowLemmas.{lreverse_count}
use Rattle.tclv_lists.proofs.changing.cmd_lreverse.Goals as goal

pub returns-then-n-ne1 : goal.returns-then-n-ne1
returns-then-n-ne1 c =
    let s = c.args.store.now.stack in
    let n = c.args.n in
    let k : length (top n s) ≡ n = count_words s [] n (omega arith) in
    answers_as _ _ n _ _ _ (lreverse_count (call_word n s) (top n s) (λ e. c.if-n-ne1.true (sym k ∙ e))) c.refuse_words.ensures

pub returns : goal.returns
returns c =
    let s = c.args.store.now.stack in
    let n = c.args.n in
    let h = c.height-height.ensures in
    let le : n ≤ c.height-height.result = omega arith in
    let row = ap (row_lreverse (call_word n s)) (one_word s [] n c.if-n-ne1.false (omega arith)) ∙ ap (λ (k : ℕ). reversed_of (get_or s (k - 1) [])) (sym h) in
    answers_as _ _ n _ _ _ row (answered _ n _ _ _ _ _ _ h le c.push_reversed-done.ensures c.settle.ensures.settles c.settle.ensures.same)
