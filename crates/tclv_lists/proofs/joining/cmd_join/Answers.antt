use Rattle.std.proofs.Common.{◌≡◌, ◌≢◌, ◌≤◌, ◌-◌, ℕ, [], length, get_or, ap, sym, ◌∙◌, arith}
use Rattle.tclv_value.specs.Stacks.{top}
use Rattle.tclv_reply.specs.Replies.{call_word}
use Rattle.tclv_lists.specs.Joining.{joined_of, row_join}
use Rattle.tclv_reply.proofs.Laws.{answered, answers_as, count_words, one_word, two_words}
use Rattle.tclv_lists.proofs.RowLemmas.{join_count}
use Rattle.tclv_lists.proofs.joining.cmd_join.Goals as goal

pub returns-in-1 : goal.returns-in-1
returns-in-1 c =
    let s = c.args.store.now.stack in
    let n = c.args.n in
    let le : n ≤ c.height-height.result = omega arith in
    let row = ap (row_join (call_word n s)) (one_word s [] n c.in-1.is (omega arith)) in
    answers_as _ _ n _ _ _ row (answered _ n _ _ _ _ _ _ c.height-height.ensures le c.push_spaced-done.ensures c.settle.ensures.settles c.settle.ensures.same)

pub returns-in-2 : goal.returns-in-2
returns-in-2 c =
    let s = c.args.store.now.stack in
    let n = c.args.n in
    let h = c.height-height.ensures in
    let le : n ≤ c.height-height.result = omega arith in
    let row = ap (row_join (call_word n s)) (two_words s [] n c.in-2.is (omega arith)) ∙ ap (λ (k : ℕ). joined_of (get_or s (k - 2) []) (get_or s (k - 1) [])) (sym h) in
    answers_as _ _ n _ _ _ row (answered _ n _ _ _ _ _ _ h le c.push_joined-done.ensures c.settle-in-2.ensures.settles c.settle-in-2.ensures.same)

pub returns-in_default : goal.returns-in_default
returns-in_default c =
    let s = c.args.store.now.stack in
    let n = c.args.n in
    let k : length (top n s) ≡ n = count_words s [] n (omega arith) in
    let one : length (top n s) ≢ 1 = λ e. omega (arith, c.in_default, k, e) in
    let two : length (top n s) ≢ 2 = λ e. omega (arith, c.in_default, k, e) in
    answers_as _ _ n _ _ _ (join_count (call_word n s) (top n s) one two) c.refuse_words.ensures
