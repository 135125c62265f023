use Rattle.std.proofs.Common.{◌≤◌, ◌-◌, ◌+◌, ◌∙◌, ℕ, [], List, length, take, drop, get_or, ap, sym, arith}
use Rattle.tclv_reply.specs.Replies.{call_word}
use Rattle.tclv_lists.specs.Paths.{path_of, element_at}
use Rattle.tclv_lists.specs.Reading.{row_lindex}
use Rattle.tclv_reply.proofs.Laws.{answered, answers_as, first_word, words_part}
use Rattle.tclv_lists.proofs.reading.cmd_lindex.Goals as goal

pub returns : goal.returns
returns c =
    let s = c.args.store.now.stack in
    let n = c.args.n in
    let h = c.height-height.ensures in
    let le : n ≤ c.height-height.result = omega arith in
    let t = get_or s (length s - n) [] in
    let row = ap (row_lindex (call_word n s)) (first_word s [] n (omega arith) (omega arith))
    ∙ ap (λ (w : List (List ℕ)). element_at t (path_of w)) (sym (words_part s n c.height-height.result h (omega arith) (omega arith)))
    ∙ ap (λ (k : ℕ). element_at (get_or s (k - n) []) (path_of (take (c.height-height.result - (c.height-height.result - n + 1)) (drop (c.height-height.result - n + 1) s)))) (sym h) in
    answers_as _ _ n _ _ _ row (answered _ n _ _ _ _ _ _ h le c.push_named-done.ensures c.settle.ensures.settles c.settle.ensures.same)
