-- Laws of the numbers that a row of words describes.
use Rattle.std.proofs.Common.{◌≡◌, ◌≢◌, ℕ, zero, suc, ◌+◌, ◌-◌, ◌^◌, ◌<◌, ◌≤◌, true, false, Bool, ℤ, pos, negsuc, List, [], ◌∷◌, length, get_or, refl, ap, ◌∙◌, subst, arith, ⊎_elim}
use Rattle.std.specs.Prelude.{◌&&◌}
use Rattle.std.specs.List.{list_all, range_with_len}
use Rattle.std.specs.Int.{w64}
use Rattle.std.specs.Int.RustNames.{FitsSigned}
use Rattle.std.proofs.lemmas.Int.{to_z-of_z}
use mir.Val.{to_z, of_z}
use Rattle.std.proofs.lemmas.Bool.{cond-true, cond-false, lt-ltb, le-ltb, cases_lt, and_from}
use Rattle.tclv_text.specs.Quotes.{list_text}
use Rattle.tclv_model.specs.declared.messages.MessageId.TheVariants.{ListTooLong}
use Rattle.tclv_model.specs.Rows.{Gives, says}
use Rattle.tclv_model.specs.Values.{too_large}
use Rattle.tclv_value.specs.Sequences.{number_at, sequence, IsInWords, LeavesWords}
use Rattle.tclv_lists.specs.Sequences.{is_word, sequence_of, lseq_count, row_lseq}
use Rattle.tclv_value.specs.Stacks.{top}
use Rattle.tclv_reply.proofs.Laws.{first_word, three_words}

fits_word : (z : ℤ) → FitsSigned w64 z → is_word z ≡ true
fits_word (pos n) h = lt-ltb _ _ h.sfits
fits_word (negsuc n) h = lt-ltb _ _ h.sfits

leaves_word : (z : ℤ) → (FitsSigned w64 z → ⊥) → is_word z ≡ false
leaves_word (pos n) h = ⊎_elim (λ (l : n < 2 ^ 63). absurd (h (record { sfits = l }))) (λ (g : 2 ^ 63 ≤ n). le-ltb _ _ g) (cases_lt n (2 ^ 63))
leaves_word (negsuc n) h = ⊎_elim (λ (l : n < 2 ^ 63). absurd (h (record { sfits = l }))) (λ (g : 2 ^ 63 ≤ n). le-ltb _ _ g) (cases_lt n (2 ^ 63))

all_pass : (p : ℕ → Bool) (a n : ℕ) → ((k : ℕ) → a ≤ k → k < a + n → p k ≡ true) → list_all p (range_with_len a n) ≡ true
all_pass p a zero h = refl
all_pass p a (suc n) h = and_from (p a) (list_all p (range_with_len (a + 1) n)) (h a (omega arith) (omega arith)) (all_pass p (a + 1) n (λ k l m. h k (omega (arith, l)) (omega (arith, m))))

and_none : (b : Bool) → (b && false) ≡ false
and_none true = refl
and_none false = refl

one_fails : (p : ℕ → Bool) (a n k : ℕ) → a ≤ k → k < a + n → p k ≡ false → list_all p (range_with_len a n) ≡ false
one_fails p a zero k l m e = absurd (omega arith)
one_fails p a (suc n) k l m e =
    ⊎_elim (λ (h : a < k). ap (λ b. p a && b) (one_fails p (a + 1) n k (omega arith) (omega arith) e) ∙ and_none (p a))
    (λ (h : k ≤ a). let same : a ≡ k = omega arith in ap (λ b. b && list_all p (range_with_len (a + 1) n)) (ap p same ∙ e))
    (cases_lt a k)

module _ (start step : ℤ) (count : ℕ) where
  pub too_many : 2 ^ 62 < count → sequence_of start step count ≡ says ListTooLong [] []
  too_many h = cond-true _ _ _ (lt-ltb _ _ h)

  pub in_words : count ≤ 2 ^ 62 → IsInWords start step count → sequence_of start step count ≡ Gives (list_text (sequence start step count))
  in_words h is = cond-false _ _ _ (le-ltb _ _ h) ∙ cond-true _ _ _ (all_pass (λ k. is_word (number_at start step k)) 0 count (λ k l m. fits_word (number_at start step k) (is k (omega (arith, m)))))

  pub out_of_words : count ≤ 2 ^ 62 → LeavesWords start step count → sequence_of start step count ≡ too_large
  out_of_words h out = cond-false _ _ _ (le-ltb _ _ h) ∙ cond-false _ _ _ (one_fails (λ k. is_word (number_at start step k)) 0 count out.0 (omega arith) (omega (arith, out.1)) (leaves_word (number_at start step out.0) out.2))

-- so many words
module _ (s : List (List ℕ)) where
  pub four_top : (n : ℕ) → n ≡ 4 → 4 ≤ length s → top n s ≡ get_or s (length s - 4) [] ∷ get_or s (length s - 3) [] ∷ get_or s (length s - 2) [] ∷ get_or s (length s - 1) [] ∷ []
  four_top n e l = ap (λ k. top k s) e ∙ first_word s [] 4 (omega arith) l ∙ ap (λ t. get_or s (length s - 4) [] ∷ t) (three_words s [] 3 refl (omega arith))

  pub five_top : (n : ℕ) → n ≡ 5 → 5 ≤ length s → top n s ≡ get_or s (length s - 5) [] ∷ get_or s (length s - 4) [] ∷ get_or s (length s - 3) [] ∷ get_or s (length s - 2) [] ∷ get_or s (length s - 1) [] ∷ []
  five_top n e l = ap (λ k. top k s) e ∙ first_word s [] 5 (omega arith) l ∙ ap (λ t. get_or s (length s - 5) [] ∷ t) (four_top 4 refl (omega arith))

-- other numbers of words
pub lseq_other : (call : List ℕ) (words : List (List ℕ)) → length words ≢ 1 → length words ≢ 2 → length words ≢ 3 → length words ≢ 4 → length words ≢ 5 → row_lseq call words ≡ lseq_count call
lseq_other call [] h i j k l = refl
lseq_other call (a ∷ []) h i j k l = absurd (h refl)
lseq_other call (a ∷ b ∷ []) h i j k l = absurd (i refl)
lseq_other call (a ∷ b ∷ c ∷ []) h i j k l = absurd (j refl)
lseq_other call (a ∷ b ∷ c ∷ d ∷ []) h i j k l = absurd (k refl)
lseq_other call (a ∷ b ∷ c ∷ d ∷ e ∷ []) h i j k l = absurd (l refl)
lseq_other call (a ∷ b ∷ c ∷ d ∷ e ∷ f ∷ ws) h i j k l = refl

-- two numbers are what their bits are read as
pub read_back : (P : ℤ → ℤ → Type 0) (a b : ℤ) → FitsSigned w64 a → FitsSigned w64 b → P (to_z w64 (of_z w64 a)) (to_z w64 (of_z w64 b)) → P a b
read_back P a b f g p = subst (λ y. P a y) (to_z-of_z w64 b g) (subst (λ x. P x (to_z w64 (of_z w64 b))) (to_z-of_z w64 a f) p)
