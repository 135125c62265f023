use Rattle.std.proofs.Common.{◌≡◌, ◌≢◌, ◌≤◌, ◌-◌, ◌∙◌, ℕ, [], length, get_or, ap, sym, arith}
use Rattle.tclv_value.specs.Stacks.{top}
use Rattle.tclv_reply.specs.Replies.{call_word}
use Rattle.tclv_strings.specs.Changing.{row_replace, text_replaced}
use Rattle.tclv_reply.proofs.Laws.{answered, answers_as, count_words}
use Rattle.tclv_strings.proofs.WordLemmas.{four_words, five_words}
use Rattle.tclv_strings.proofs.CountLemmas.{replace_count}
use Rattle.tclv_strings.proofs.changing.string_replace.Goals as goal

pub returns-in-4 : goal.returns-in-4
returns-in-4 c =
    let s = c.args.store.now.stack in
    let n = c.args.n in
    let h = c.height-height.ensures in
    let le : n ≤ c.height-height.result = omega arith in
    let row = ap (row_replace (call_word n s)) (four_words s [] n c.in-4.is (omega arith)) in
    answers_as _ _ n _ _ _ row (answered _ n _ _ _ _ _ _ h le c.push_without-done.ensures c.settle.ensures.settles c.settle.ensures.same)

pub returns-in-5 : goal.returns-in-5
returns-in-5 c =
    let s = c.args.store.now.stack in
    let n = c.args.n in
    let h = c.height-height.ensures in
    let le : n ≤ c.height-height.result = omega arith in
    let row = ap (row_replace (call_word n s)) (five_words s [] n c.in-5.is (omega arith)) ∙ ap (λ (k : ℕ). text_replaced (get_or s (k - 4) []) (get_or s (k - 3) []) (get_or s (k - 2) []) (get_or s (k - 1) [])) (sym h) in
    answers_as _ _ n _ _ _ row (answered _ n _ _ _ _ _ _ h le c.push_replaced-done.ensures c.settle-in-5.ensures.settles c.settle-in-5.ensures.same)

pub returns-in_default : goal.returns-in_default
returns-in_default c =
    let s = c.args.store.now.stack in
    let n = c.args.n in
    let k : length (top n s) ≡ n = count_words s [] n (omega arith) in
    let one : length (top n s) ≢ 4 = λ e. omega (arith, c.in_default, k, e) in
    let two : length (top n s) ≢ 5 = λ e. omega (arith, c.in_default, k, e) in
    answers_as _ _ n _ _ _ (replace_count (call_word n s) (top n s) one two) c.refuse_words.ensures
