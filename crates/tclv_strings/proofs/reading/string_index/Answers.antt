use Rattle.std.proofs.Common.{◌≡◌, ◌≤◌, ◌-◌, ◌∙◌, ℕ, [], length, get_or, ap, sym, arith}
use Rattle.tclv_value.specs.Stacks.{top}
use Rattle.tclv_reply.specs.Replies.{call_word}
use Rattle.tclv_strings.specs.Reading.{row_index, character_of}
use Rattle.tclv_reply.proofs.Laws.{answered, answers_as, count_words, three_words}
use Rattle.tclv_strings.proofs.CountLemmas.{index_count}
use Rattle.tclv_strings.proofs.reading.string_index.Goals as goal

pub returns-then-n-ne3 : goal.returns-then-n-ne3
returns-then-n-ne3 c =
    let s = c.args.store.now.stack in
    let n = c.args.n in
    let k : length (top n s) ≡ n = count_words s [] n (omega arith) in
    answers_as _ _ n _ _ _ (index_count (call_word n s) (top n s) (λ e. c.if-n-ne3.true (sym k ∙ e))) c.refuse_words.ensures

pub returns : goal.returns
returns c =
    let s = c.args.store.now.stack in
    let n = c.args.n in
    let h = c.height-height.ensures in
    let le : n ≤ c.height-height.result = omega arith in
    let row = ap (row_index (call_word n s)) (three_words s [] n c.if-n-ne3.false (omega arith)) ∙ ap (λ (k : ℕ). character_of (get_or s (k - 2) []) (get_or s (k - 1) [])) (sym h) in
    answers_as _ _ n _ _ _ row (answered _ n _ _ _ _ _ _ h le c.push_character-done.ensures c.settle.ensures.settles c.settle.ensures.same)
