use Rattle.std.proofs.Common.{◌≡◌, ◌≤◌, ◌-◌, ◌∙◌, ℕ, List, [], length, get_or, ap, sym, arith}
use Rattle.tclv_model.specs.Usages.{usage_of}
use Rattle.tclv_model.specs.Rows.{RowAnswer, Gives, wrong_count}
use Rattle.tclv_value.specs.Stacks.{top}
use Rattle.tclv_reply.specs.Replies.{call_word}
use Rattle.tclv_strings.specs.Folding.{in_case, row_case}
use Rattle.tclv_reply.proofs.Laws.{answered, answers_as, count_words, two_words}
use Rattle.tclv_strings.proofs.CaseLemmas.{case_count}
use Rattle.tclv_strings.proofs.folding.string_case.Goals as goal

pub returns-then-n-ne2 : goal.returns-then-n-ne2
returns-then-n-ne2 c =
    let s = c.args.store.now.stack in
    let n = c.args.n in
    let call = call_word n s in
    let k : length (top n s) ≡ n = count_words s [] n (omega arith) in
    answers_as _ _ n _ _ _ (case_count c.args.case call (top n s) (λ e. c.if-n-ne2.true (sym k ∙ e)) ∙ ap (λ u. let r : RowAnswer = wrong_count call (usage_of u) in r) (sym c.usage_for.ensures)) c.refuse_words.ensures

pub returns : goal.returns
returns c =
    let s = c.args.store.now.stack in
    let n = c.args.n in
    let h = c.height-height.ensures in
    let le : n ≤ c.height-height.result = omega arith in
    let f : List ℕ → RowAnswer = λ t. Gives (in_case c.args.case t) in
    let row = ap (row_case c.args.case (call_word n s)) (two_words s [] n c.if-n-ne2.false (omega arith)) ∙ ap (λ (k : ℕ). f (get_or s (k - 1) [])) (sym h) in
    answers_as _ _ n _ _ _ row (answered _ n _ _ _ _ _ _ h le c.push_in_case-done.ensures c.settle.ensures.settles c.settle.ensures.same)
