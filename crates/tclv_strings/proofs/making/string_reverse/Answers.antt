use Rattle.std.proofs.Common.{◌≡◌, ◌≤◌, ◌-◌, ◌∙◌, ℕ, [], length, get_or, ap, sym, arith}
use Rattle.tclv_model.specs.Rows.{Gives}
use Rattle.tclv_value.specs.Stacks.{top}
use Rattle.tclv_reply.specs.Replies.{call_word}
use Rattle.tclv_strings.specs.Making.{row_reverse}
use Rattle.tclv_reply.proofs.Laws.{answered, answers_as, count_words, two_words}
use Rattle.tclv_strings.proofs.CountLemmas.{reverse_count}
use Rattle.std.specs.Prelude.{reverse}
use Rattle.tclv_strings.proofs.making.string_reverse.Goals as goal

pub returns-then-n-ne2 : goal.returns-then-n-ne2
returns-then-n-ne2 c =
    let s = c.args.store.now.stack in
    let n = c.args.n in
    let k : length (top n s) ≡ n = count_words s [] n (omega arith) in
    answers_as _ _ n _ _ _ (reverse_count (call_word n s) (top n s) (λ e. c.if-n-ne2.true (sym k ∙ e))) c.refuse_words.ensures

pub returns : goal.returns
returns c =
    let s = c.args.store.now.stack in
    let n = c.args.n in
    let h = c.height-height.ensures in
    let le : n ≤ c.height-height.result = omega arith in
    let row = ap (row_reverse (call_word n s)) (two_words s [] n c.if-n-ne2.false (omega arith)) ∙ ap (λ (k : ℕ). Gives (reverse (get_or s (k - 1) []))) (sym h) in
    answers_as _ _ n _ _ _ row (answered _ n _ _ _ _ _ _ h le c.push_reversed-done.ensures c.settle.ensures.settles c.settle.ensures.same)
