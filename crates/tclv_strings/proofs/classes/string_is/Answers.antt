use Rattle.std.proofs.Common.{◌≡◌, ◌≢◌, ◌≤◌, ◌-◌, ◌∙◌, ℕ, List, [], length, get_or, false, ap, sym, arith}
use Rattle.tclv_model.specs.Rows.{RowAnswer}
use Rattle.tclv_value.specs.Stacks.{top}
use Rattle.tclv_reply.specs.Replies.{call_word}
use Rattle.tclv_strings.specs.Classes.{is_answer, row_is}
use Rattle.tclv_reply.proofs.Laws.{answered, answers_as, count_words, three_words}
use Rattle.tclv_strings.proofs.ComparingLemmas.{four_words}
use Rattle.tclv_strings.proofs.ClassLemmas.{is_count}
use Rattle.tclv_strings.proofs.classes.string_is.Goals as goal

pub returns-in-3 : goal.returns-in-3
returns-in-3 c =
    let s = c.args.store.now.stack in
    let n = c.args.n in
    let h = c.height-height.ensures in
    let le : n ≤ c.height-height.result = omega arith in
    let f : List ℕ → List ℕ → RowAnswer = λ k t. is_answer false k t in
    let row = ap (row_is (call_word n s)) (three_words s [] n c.in-3.is (omega arith)) ∙ ap (λ (k : ℕ). f (get_or s (k - 2) []) (get_or s (k - 1) [])) (sym h) in
    answers_as _ _ n _ _ _ row (answered _ n _ _ _ _ _ _ h le c.push_is-done.ensures c.settle.ensures.settles c.settle.ensures.same)

pub returns-in-4 : goal.returns-in-4
returns-in-4 c =
    let s = c.args.store.now.stack in
    let n = c.args.n in
    let h = c.height-height.ensures in
    let le : n ≤ c.height-height.result = omega arith in
    let row = ap (row_is (call_word n s)) (four_words s n c.height-height.result c.in-4.is (omega arith) h) in
    answers_as _ _ n _ _ _ row (answered _ n _ _ _ _ _ _ h le c.push_is_with-done.ensures c.settle-in-4.ensures.settles c.settle-in-4.ensures.same)

pub returns-in_default : goal.returns-in_default
returns-in_default c =
    let s = c.args.store.now.stack in
    let n = c.args.n in
    let k : length (top n s) ≡ n = count_words s [] n (omega arith) in
    let three : length (top n s) ≢ 3 = λ e. omega (arith, c.in_default, k, e) in
    let four : length (top n s) ≢ 4 = λ e. omega (arith, c.in_default, k, e) in
    answers_as _ _ n _ _ _ (is_count (call_word n s) (top n s) three four) c.refuse_words.ensures
