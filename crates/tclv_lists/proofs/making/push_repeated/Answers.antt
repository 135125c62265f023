use Rattle.std.proofs.Common.{◌-◌, ◌+◌, ◌∙◌, List, ℕ, ◌++◌, [], length, take, drop, get_or, sym, ap, arith}
use Rattle.tclv_text.specs.Quotes.{list_text}
use Rattle.tclv_model.specs.Rows.{RowAnswer, Gives, and_then}
use Rattle.tclv_value.specs.Stacks.{top}
use Rattle.tclv_lists.specs.Making.{times, count_of}
use Rattle.tclv_reply.proofs.Laws.{grows_trans, begun, read_on, words_part, leaves_list}
use Rattle.tclv_lists.proofs.making.push_repeated.Goals as goal

pub returns : goal.returns
returns c =
    let old = c.args.store.now in
    let s = old.stack in
    let n = c.args.n in
    let h = c.height-height.ensures in
    let height = c.height-height.result in
    let t = get_or s (length s - n) [] in
    let words = top (n - 1) s in
    let f : ℕ → RowAnswer = λ k. Gives (list_text (times k words)) in
    let row = and_then (count_of t) f in
    let r = read_on (count_of t) f (begun row old) (count_of (get_or s (height - n) [])) (ap (λ (k : ℕ). count_of (get_or s (k - n) [])) (sym h)) c.in_ok-count.ensures in
    let one = c.count_of.new.store in
    let mid = c.push_times.new.store in
    let p = c.in_ok-push_times.ensures in
    let count = c.in_ok-count.count in
    let pushed = p.pushed
    ∙ ap (λ (q : List (List ℕ)). q ++ times count (take (height - (height - n + 1)) (drop (height - n + 1) q))) r.went.same
    ∙ ap (λ (w : List (List ℕ)). s ++ times count w) (words_part s n height h (omega arith) (omega arith)) in
    let more = ap (λ (k : ℕ). k - height) c.height-all.ensures ∙ ap (λ (k : ℕ). length mid.stack - k) h in
    leaves_list row old mid c.push_list.new.self (times count words) (c.height-all.result - height) (grows_trans old one mid r.went.grows p.grows) pushed more c.in_ok-push_list.ensures.gathered (r.went.is ∙ ap f (sym r.shown))
