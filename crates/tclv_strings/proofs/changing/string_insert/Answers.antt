use Rattle.std.proofs.Common.{◌≡◌, ◌≤◌, ◌-◌, ◌∙◌, ℕ, [], length, get_or, ap, sym, arith}
use Rattle.tclv_value.specs.Stacks.{top}
use Rattle.tclv_reply.specs.Replies.{call_word}
use Rattle.tclv_strings.specs.Changing.{row_insert, text_inserted}
use Rattle.tclv_reply.proofs.Laws.{answered, answers_as, count_words}
use Rattle.tclv_strings.proofs.WordLemmas.{four_words}
use Rattle.tclv_strings.proofs.CountLemmas.{insert_count}
use Rattle.tclv_strings.proofs.changing.string_insert.Goals as goal

pub returns-then-n-ne4 : goal.returns-then-n-ne4
returns-then-n-ne4 c =
    let s = c.args.store.now.stack in
    let n = c.args.n in
    let k : length (top n s) ≡ n = count_words s [] n (omega arith) in
    answers_as _ _ n _ _ _ (insert_count (call_word n s) (top n s) (λ e. c.if-n-ne4.true (sym k ∙ e))) c.refuse_words.ensures

pub returns : goal.returns
returns c =
    let s = c.args.store.now.stack in
    let n = c.args.n in
    let h = c.height-height.ensures in
    let le : n ≤ c.height-height.result = omega arith in
    let row = ap (row_insert (call_word n s)) (four_words s [] n c.if-n-ne4.false (omega arith)) ∙ ap (λ (k : ℕ). text_inserted (get_or s (k - 3) []) (get_or s (k - 2) []) (get_or s (k - 1) [])) (sym h) in
    answers_as _ _ n _ _ _ row (answered _ n _ _ _ _ _ _ h le c.push_inserted-done.ensures c.settle.ensures.settles c.settle.ensures.same)
