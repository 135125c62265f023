use Rattle.std.proofs.Common.{◌≡◌, ◌≢◌, ◌≤◌, ◌-◌, ◌∙◌, ℕ, List, [], length, get_or, ap, sym, arith}
use Rattle.std.specs.Prelude.{Some, None}
use Rattle.tclv_model.specs.Usages.{usage_of}
use Rattle.tclv_model.specs.Rows.{RowAnswer, Gives, wrong_count}
use Rattle.tclv_value.specs.Stacks.{top}
use Rattle.tclv_reply.specs.Replies.{call_word}
use Rattle.tclv_strings.specs.Trimming.{trimmed_at, row_trim}
use Rattle.tclv_reply.proofs.Laws.{answered, answers_as, count_words, two_words, three_words}
use Rattle.tclv_strings.proofs.TrimLemmas.{trim_count}
use Rattle.tclv_strings.proofs.trimming.string_trim.Goals as goal

pub returns-in-2 : goal.returns-in-2
returns-in-2 c =
    let s = c.args.store.now.stack in
    let n = c.args.n in
    let h = c.height-height.ensures in
    let le : n ≤ c.height-height.result = omega arith in
    let f : List ℕ → RowAnswer = λ t. Gives (trimmed_at c.args.ends None t) in
    let row = ap (row_trim c.args.ends (call_word n s)) (two_words s [] n c.in-2.is (omega arith)) ∙ ap (λ (k : ℕ). f (get_or s (k - 1) [])) (sym h) in
    answers_as _ _ n _ _ _ row (answered _ n _ _ _ _ _ _ h le c.push_trimmed-done.ensures c.settle.ensures.settles c.settle.ensures.same)

pub returns-in-3 : goal.returns-in-3
returns-in-3 c =
    let s = c.args.store.now.stack in
    let n = c.args.n in
    let h = c.height-height.ensures in
    let le : n ≤ c.height-height.result = omega arith in
    let f : List ℕ → List ℕ → RowAnswer = λ t cs. Gives (trimmed_at c.args.ends (Some cs) t) in
    let row = ap (row_trim c.args.ends (call_word n s)) (three_words s [] n c.in-3.is (omega arith)) ∙ ap (λ (k : ℕ). f (get_or s (k - 2) []) (get_or s (k - 1) [])) (sym h) in
    answers_as _ _ n _ _ _ row (answered _ n _ _ _ _ _ _ h le c.push_trimmed_of-done.ensures c.settle-in-3.ensures.settles c.settle-in-3.ensures.same)

pub returns-in_default : goal.returns-in_default
returns-in_default c =
    let s = c.args.store.now.stack in
    let n = c.args.n in
    let call = call_word n s in
    let k : length (top n s) ≡ n = count_words s [] n (omega arith) in
    let two : length (top n s) ≢ 2 = λ e. omega (arith, c.in_default, k, e) in
    let three : length (top n s) ≢ 3 = λ e. omega (arith, c.in_default, k, e) in
    answers_as _ _ n _ _ _ (trim_count c.args.ends call (top n s) two three ∙ ap (λ u. let r : RowAnswer = wrong_count call (usage_of u) in r) (sym c.usage_for.ensures)) c.refuse_words.ensures
