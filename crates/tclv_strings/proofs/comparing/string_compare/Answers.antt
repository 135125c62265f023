use Rattle.std.proofs.Common.{◌≡◌, ◌≤◌, ◌-◌, ◌∙◌, ℕ, List, [], length, get_or, ap, sym, arith}
use Rattle.tclv_model.specs.Usages.{usage_of}
use Rattle.tclv_model.specs.Rows.{RowAnswer, wrong_count}
use Rattle.tclv_model.specs.declared.usages.Usage.{Usage}
use Rattle.tclv_value.specs.Stacks.{top}
use Rattle.tclv_reply.specs.Replies.{call_word}
use Rattle.tclv_reply.proofs.Laws.{answered, answers_as, count_words}
use Rattle.tclv_strings.proofs.ComparingLemmas.{compare_few, compare_many, compared_at, compare_row}
use Rattle.tclv_strings.proofs.comparing.string_compare.Goals as goal

pub returns-then-n-lt3 : goal.returns-then-n-lt3
returns-then-n-lt3 c =
    let s = c.args.store.now.stack in
    let n = c.args.n in
    let call = call_word n s in
    let k : length (top n s) ≡ n = count_words s [] n (omega arith) in
    let count : Usage → RowAnswer = λ u. wrong_count call (usage_of u) in
    answers_as _ _ n _ _ _ (compare_few c.args.verdict call (top n s) (omega (arith, k, c.if-n-lt3.true)) ∙ ap count (sym c.usage_for.ensures)) c.refuse_words.ensures

pub returns-then-n-gt6 : goal.returns-then-n-gt6
returns-then-n-gt6 c =
    let s = c.args.store.now.stack in
    let n = c.args.n in
    let call = call_word n s in
    let k : length (top n s) ≡ n = count_words s [] n (omega arith) in
    let count : Usage → RowAnswer = λ u. wrong_count call (usage_of u) in
    answers_as _ _ n _ _ _ (compare_many c.args.verdict call (top n s) (omega (arith, k, c.if-n-gt6.true)) ∙ ap count (sym c.usage_for-then-n-gt6.ensures)) c.refuse_words-then-n-gt6.ensures

pub returns : goal.returns
returns c =
    let s = c.args.store.now.stack in
    let n = c.args.n in
    let h = c.height-height.ensures in
    let le : n ≤ c.height-height.result = omega arith in
    let call : call_word n s ≡ get_or s (c.height-height.result - n - 1) [] = ap (λ (k : ℕ). get_or s (k - n - 1) []) (sym h) in
    let row = compare_row c.args.verdict (call_word n s) s n c.height-height.result c.if-n-lt3.false c.if-n-gt6.false (omega arith) h
    ∙ ap (λ (w : List ℕ). compared_at c.args.verdict w s n c.height-height.result) call in
    answers_as _ _ n _ _ _ row (answered _ n _ _ _ _ _ _ h le c.push_compared-done.ensures c.settle.ensures.settles c.settle.ensures.same)
