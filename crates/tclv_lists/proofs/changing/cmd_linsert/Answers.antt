use Rattle.std.proofs.Common.{◌≤◌, ◌+◌, ◌-◌, ◌∙◌, ℕ, [], List, Err, length, get_or, ap, sym, refl, arith}
use Rattle.tclv_text.specs.Quotes.{list_text}
use Rattle.tclv_model.specs.Rows.{Answer, RowAnswer, Gives, and_then}
use Rattle.tclv_model.specs.Values.{list_of}
use Rattle.tclv_value.specs.Stacks.{top}
use Rattle.tclv_value.specs.Lists.{replaced}
use Rattle.tclv_reply.specs.Replies.{call_word}
use Rattle.tclv_lists.specs.Changing.{Gap, gap_before, filled, inserted_of, row_linsert}
use Rattle.tclv_reply.proofs.Laws.{answered, answers_as, begun, read_on, leaves_there, answers_on, count_words, two_and_more}
use Rattle.tclv_lists.proofs.RowLemmas.{linsert_count}
use Rattle.tclv_lists.proofs.changing.cmd_linsert.Goals as goal

pub returns-then-n-lt2 : goal.returns-then-n-lt2
returns-then-n-lt2 c =
    let s = c.args.store.now.stack in
    let n = c.args.n in
    answers_as _ _ n _ _ _ (linsert_count (call_word n s) (top n s) (omega (arith, count_words s [] n (omega arith)))) c.refuse_words.ensures

pub returns-in-Err : goal.returns-in-Err
returns-in-Err c =
    let old = c.args.store.now in
    let s = old.stack in
    let n = c.args.n in
    let h = c.height-height.ensures in
    let at = c.height-height.result - n in
    let t : ℕ → List ℕ = λ k. get_or s k [] in
    let le : n ≤ c.height-height.result = omega arith in
    let f : Gap → RowAnswer = λ gap. Gives (filled gap (top (n - 2) s)) in
    let gap = gap_before (t at) (t (at + 1)) in
    let row = ap (row_linsert (call_word n s)) (two_and_more s [] n (omega arith) (omega arith)) ∙ ap (λ (k : ℕ). inserted_of (get_or s (k - n) []) (get_or s (k - n + 1) []) (top (n - 2) s)) (sym h) in
    answers_as _ _ n _ _ _ row (answered (and_then gap f) n old _ _ _ (Err c.in-Err.kind) _ h le (leaves_there gap f gap (begun (and_then gap f) old) refl c.in-Err.ensures) c.settle.ensures.settles c.settle.ensures.same)

pub returns-in-Ok : goal.returns-in-Ok
returns-in-Ok c =
    let old = c.args.store.now in
    let s = old.stack in
    let n = c.args.n in
    let h = c.height-height.ensures in
    let at = c.height-height.result - n in
    let t : ℕ → List ℕ = λ k. get_or s k [] in
    let f : Gap → RowAnswer = λ gap. Gives (filled gap (top (n - 2) s)) in
    let gap = gap_before (t at) (t (at + 1)) in
    let row = ap (row_linsert (call_word n s)) (two_and_more s [] n (omega arith) (omega arith)) ∙ ap (λ (k : ℕ). inserted_of (get_or s (k - n) []) (get_or s (k - n + 1) []) (top (n - 2) s)) (sym h) in
    let r = read_on gap f (begun (and_then gap f) old) gap refl c.in-Ok.ensures in
    let mid = c.gap_before.new.store.stack in
    let from = c.in-Ok.from in
    let to = c.in-Ok.to in
    let g : ℕ → ℕ → List (List ℕ) → List (List ℕ) → RowAnswer = λ a b words ts. Gives (list_text (replaced ts a b words)) in
    let then = and_then (list_of (get_or mid (length mid - n) [])) (g from to (top (n - 2) mid)) in
    let list_is = ap (λ (q : List (List ℕ)). list_of (get_or q (length q - n) [])) r.went.same ∙ ap (λ (k : ℕ). list_of (get_or s (k - n) [])) (sym h) ∙ r.shown.list_is in
    let same = ap (λ (a : Answer (List (List ℕ))). and_then a (g from to (top (n - 2) mid))) list_is
    ∙ ap (λ (q : List (List ℕ)). g from to (top (n - 2) q) r.value.list) r.went.same
    ∙ ap (λ (a : ℕ). g a to (top (n - 2) s) r.value.list) r.shown.from_is
    ∙ ap (λ (b : ℕ). g r.value.from b (top (n - 2) s) r.value.list) r.shown.to_is in
    answers_as _ _ n _ _ _ row (answers_on n then r.went (sym same) _ c.fill.ensures)
