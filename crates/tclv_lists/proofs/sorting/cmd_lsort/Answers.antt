use Rattle.std.proofs.Common.{◌≤◌, ◌-◌, ◌∙◌, ℕ, [], length, take, drop, get_or, ap, sym, arith}
use Rattle.std.proofs.lemmas.List.{take_rest}
use Rattle.tclv_reply.specs.Replies.{call_word}
use Rattle.tclv_lists.specs.Sorting.{row_lsort}
use Rattle.tclv_reply.proofs.Laws.{answered, answers_as}
use Rattle.tclv_lists.proofs.sorting.cmd_lsort.Goals as goal

pub returns : goal.returns
returns c =
    let s = c.args.store.now.stack in
    let n = c.args.n in
    let h = c.height-height.ensures in
    let le : n ≤ c.height-height.result = omega arith in
    let row = ap (row_lsort (call_word n s)) (sym (take_rest s (length s - n)))
    ∙ ap (λ (k : ℕ). row_lsort (get_or s (k - n - 1) []) (take (k - (k - n)) (drop (k - n) s))) (sym h) in
    answers_as _ _ n _ _ _ row (answered _ n _ _ _ _ _ _ h le c.push_sort-done.ensures c.settle.ensures.settles c.settle.ensures.same)
