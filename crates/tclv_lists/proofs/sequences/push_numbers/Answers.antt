use Rattle.std.proofs.Common.{◌≡◌, ◌-◌, ◌∙◌, List, ℕ, [], None, length, get_or, sym, ap, arith}
use Rattle.tclv_value.specs.Stacks.{top}
use Rattle.tclv_reply.specs.Replies.{call_word}
use Rattle.tclv_lists.specs.Sequences.{counting, from_to, three_words, four_words, five_words, lseq_count, row_lseq}
use Rattle.tclv_reply.proofs.Laws.{begun, leaves_on, one_word, two_words, count_words, three_words as three_top}
use Rattle.tclv_lists.proofs.SequenceLemmas.{four_top, five_top, lseq_other}
use Rattle.tclv_lists.proofs.sequences.push_numbers.Goals as goal

pub returns-then-n-eq1 : goal.returns-then-n-eq1
returns-then-n-eq1 c =
    let old = c.args.store.now in
    let s = old.stack in
    let n = c.args.n in
    let height = c.height-height.result in
    let w : ℕ → ℕ → List ℕ = λ k m. get_or s (k - m) [] in
    let row = row_lseq (call_word n s) (top n s) in
    leaves_on (counting None (w height 1) None) (begun row old) (ap (row_lseq (call_word n s)) (one_word s [] n c.if-n-eq1.true (omega arith)) ∙ ap (λ (k : ℕ). counting None (w k 1) None) (sym c.height-height.ensures)) c.push_counting.ensures

pub returns-then-n-eq2 : goal.returns-then-n-eq2
returns-then-n-eq2 c =
    let old = c.args.store.now in
    let s = old.stack in
    let n = c.args.n in
    let height = c.height-height.result in
    let w : ℕ → ℕ → List ℕ = λ k m. get_or s (k - m) [] in
    let row = row_lseq (call_word n s) (top n s) in
    leaves_on (from_to (w height 2) (w height 1) None) (begun row old) (ap (row_lseq (call_word n s)) (two_words s [] n c.if-n-eq2.true (omega arith)) ∙ ap (λ (k : ℕ). from_to (w k 2) (w k 1) None) (sym c.height-height.ensures)) c.push_between.ensures

pub returns-then-n-eq3 : goal.returns-then-n-eq3
returns-then-n-eq3 c =
    let old = c.args.store.now in
    let s = old.stack in
    let n = c.args.n in
    let height = c.height-height.result in
    let w : ℕ → ℕ → List ℕ = λ k m. get_or s (k - m) [] in
    let row = row_lseq (call_word n s) (top n s) in
    leaves_on (three_words (w height 3) (w height 2) (w height 1)) (begun row old) (ap (row_lseq (call_word n s)) (three_top s [] n c.if-n-eq3.true (omega arith)) ∙ ap (λ (k : ℕ). three_words (w k 3) (w k 2) (w k 1)) (sym c.height-height.ensures)) c.push_three.ensures

pub returns-then-n-eq4 : goal.returns-then-n-eq4
returns-then-n-eq4 c =
    let old = c.args.store.now in
    let s = old.stack in
    let n = c.args.n in
    let height = c.height-height.result in
    let w : ℕ → ℕ → List ℕ = λ k m. get_or s (k - m) [] in
    let row = row_lseq (call_word n s) (top n s) in
    let call : length s - n - 1 ≡ length s - 5 = omega (arith, c.if-n-eq4.true) in
    leaves_on (four_words (w height 5) (w height 4) (w height 3) (w height 2) (w height 1)) (begun row old) (ap (row_lseq (call_word n s)) (four_top s n c.if-n-eq4.true (omega arith)) ∙ ap (λ (m : ℕ). let x = get_or s m [] in four_words x (w (length s) 4) (w (length s) 3) (w (length s) 2) (w (length s) 1)) call ∙ ap (λ (k : ℕ). four_words (w k 5) (w k 4) (w k 3) (w k 2) (w k 1)) (sym c.height-height.ensures)) c.push_four.ensures

pub returns-then-n-eq5 : goal.returns-then-n-eq5
returns-then-n-eq5 c =
    let old = c.args.store.now in
    let s = old.stack in
    let n = c.args.n in
    let height = c.height-height.result in
    let w : ℕ → ℕ → List ℕ = λ k m. get_or s (k - m) [] in
    let row = row_lseq (call_word n s) (top n s) in
    let call : length s - n - 1 ≡ length s - 6 = omega (arith, c.if-n-eq5.true) in
    leaves_on (five_words (w height 6) (w height 5) (w height 4) (w height 3) (w height 2) (w height 1)) (begun row old) (ap (row_lseq (call_word n s)) (five_top s n c.if-n-eq5.true (omega arith)) ∙ ap (λ (m : ℕ). let x = get_or s m [] in five_words x (w (length s) 5) (w (length s) 4) (w (length s) 3) (w (length s) 2) (w (length s) 1)) call ∙ ap (λ (k : ℕ). five_words (w k 6) (w k 5) (w k 4) (w k 3) (w k 2) (w k 1)) (sym c.height-height.ensures)) c.push_five.ensures

pub returns : goal.returns
returns c =
    let old = c.args.store.now in
    let s = old.stack in
    let n = c.args.n in
    let count = count_words s [] n (omega arith) in
    let row = row_lseq (call_word n s) (top n s) in
    leaves_on (lseq_count (get_or s (c.height-height.result - n - 1) [])) (begun row old)
    (lseq_other (call_word n s) (top n s) (λ e. c.if-n-eq1.false (sym count ∙ e)) (λ e. c.if-n-eq2.false (sym count ∙ e)) (λ e. c.if-n-eq3.false (sym count ∙ e)) (λ e. c.if-n-eq4.false (sym count ∙ e)) (λ e. c.if-n-eq5.false (sym count ∙ e))
    ∙ ap (λ (k : ℕ). lseq_count (get_or s (k - n - 1) [])) (sym c.height-height.ensures)) c.refuse_form.ensures
