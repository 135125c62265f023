use Rattle.std.proofs.Common.{◌-◌, ◌+◌, ◌∙◌, List, ℕ, ◌++◌, [], length, take, drop, get_or, refl, sym, ap, subst, arith}
use Rattle.std.specs.Prelude.{ℤ, IsOk}
use Rattle.tclv_text.specs.Elements.{elements}
use Rattle.tclv_text.specs.Quotes.{list_text}
use Rattle.tclv_model.specs.Rows.{RowAnswer, Gives, and_then}
use Rattle.tclv_model.specs.Values.{list_of}
use Rattle.tclv_value.specs.Stacks.{top}
use Rattle.tclv_lists.specs.Changing.{places_of, without_from, removed_of}
use Rattle.tclv_reply.proofs.Laws.{grows_trans, begun, read_on, went_kept, words_part, leaves_list}
use Rattle.tclv_lists.proofs.JoinLemmas.{elements_given}
use Rattle.tclv_lists.proofs.RemoveLemmas.{marked_as}
use Rattle.tclv_lists.proofs.changing.push_removed.Goals as goal

pub push_without-requires-clause-list : goal.push_without-requires-clause-list
push_without-requires-clause-list c =
    let old = c.args.store.now in
    let s = old.stack in
    let n = c.args.n in
    let h = c.height-height.ensures in
    let height = c.height-height.result in
    let l = get_or s (length s - n) [] in
    let words = top (n - 1) s in
    let part : List (List ℕ) → List (List ℕ) = λ q. take (height - (height - n + 1)) (drop (height - n + 1) q) in
    let f : List (List ℕ) → RowAnswer = λ ts. and_then (places_of words (length ts)) (λ ks. Gives (list_text (without_from 0 ks ts))) in
    let r1 = read_on (list_of l) f (begun (removed_of l words) old) (list_of (get_or s (height - n) [])) (ap (λ (k : ℕ). list_of (get_or s (k - n) [])) (sym h)) c.in_ok-len.ensures in
    let ts = r1.value in
    let len = c.in_ok-len.len in
    let g : List ℤ → RowAnswer = λ ks. Gives (list_text (without_from 0 ks ts)) in
    let same = ap (places_of words) (sym r1.shown)
    ∙ ap (λ (w : List (List ℕ)). places_of w len) (sym (words_part s n height h (omega arith) (omega arith)))
    ∙ ap (λ (q : List (List ℕ)). places_of (part q) len) (sym r1.went.same) in
    let r2 = read_on (places_of words (length ts)) g r1.went (places_of (part c.list_len.new.store.stack) len) same c.in_ok-marks.ensures in
    let text = c.bytes.ensures.text ∙ c.in_ok-text.ensures.text ∙ ap (λ (q : List (List ℕ)). get_or q (height - n) []) r2.went.same ∙ ap (λ (k : ℕ). get_or s (k - n) []) h in
    subst IsOk (sym (ap elements text ∙ elements_given (elements l) ts r1.given)) refl

pub returns : goal.returns
returns c =
    let old = c.args.store.now in
    let s = old.stack in
    let n = c.args.n in
    let h = c.height-height.ensures in
    let height = c.height-height.result in
    let l = get_or s (length s - n) [] in
    let words = top (n - 1) s in
    let part : List (List ℕ) → List (List ℕ) = λ q. take (height - (height - n + 1)) (drop (height - n + 1) q) in
    let f : List (List ℕ) → RowAnswer = λ ts. and_then (places_of words (length ts)) (λ ks. Gives (list_text (without_from 0 ks ts))) in
    let r1 = read_on (list_of l) f (begun (removed_of l words) old) (list_of (get_or s (height - n) [])) (ap (λ (k : ℕ). list_of (get_or s (k - n) [])) (sym h)) c.in_ok-len.ensures in
    let ts = r1.value in
    let len = c.in_ok-len.len in
    let g : List ℤ → RowAnswer = λ ks. Gives (list_text (without_from 0 ks ts)) in
    let same = ap (places_of words) (sym r1.shown)
    ∙ ap (λ (w : List (List ℕ)). places_of w len) (sym (words_part s n height h (omega arith) (omega arith)))
    ∙ ap (λ (q : List (List ℕ)). places_of (part q) len) (sym r1.went.same) in
    let r2 = read_on (places_of words (length ts)) g r1.went (places_of (part c.list_len.new.store.stack) len) same c.in_ok-marks.ensures in
    let ks = r2.value in
    let cur = c.copy_word.new.store in
    let mid = c.push_without.new.store in
    let w = went_kept r2.went c.in_ok-text.ensures.kept in
    let text = c.bytes.ensures.text ∙ c.in_ok-text.ensures.text ∙ ap (λ (q : List (List ℕ)). get_or q (height - n) []) r2.went.same ∙ ap (λ (k : ℕ). get_or s (k - n) []) h in
    let read = ap elements text ∙ elements_given (elements l) ts r1.given in
    let p = c.in_ok-push_without.ensures in
    let pushed = p.pushed ks (marked_as len ks c.in_ok-marks.marks.items c.as_slice.result.now r2.shown c.as_slice.ensures.value) ts read ∙ ap (λ (q : List (List ℕ)). q ++ without_from 0 ks ts) w.same in
    let more = ap (λ (k : ℕ). k - height) c.height-all.ensures ∙ ap (λ (k : ℕ). length mid.stack - k) h in
    leaves_list (removed_of l words) old mid c.push_list.new.self (without_from 0 ks ts) (c.height-all.result - height) (grows_trans old cur mid w.grows p.grows) pushed more c.in_ok-push_list.ensures.gathered w.is
