-- Laws of characters that go at the ends of a text.
use Rattle.std.proofs.Common.{◌≡◌, ◌≢◌, ℕ, ◌+◌, ◌-◌, ◌≤◌, Bool, true, false, cond, List, [], ◌∷◌, ◌++◌, length, take, drop, refl, ap, ◌∙◌, arith}
use Rattle.std.specs.Prelude.{reverse}
use Rattle.std.specs.List.{prefix_len, suffix_len}
use Rattle.std.proofs.Math.Numerals.{one-add}
use Rattle.std.proofs.lemmas.Bool.{cond-true, cond-false}
use Rattle.std.proofs.lemmas.List.{length-append, length-reverse, take-append-le, take_all, reverse-append}
use Rattle.std.proofs.lemmas.List.Sums.{prefix_len-le-length}
use Rattle.tclv_model.specs.Usages.{usage_of}
use Rattle.tclv_model.specs.Rows.{wrong_count}
use Rattle.tclv_strings.specs.declared.trimming.Ends.{Ends}
use Rattle.tclv_strings.specs.Trimming.{trim_usage, row_trim}

module _ (p : ℕ → Bool) where
  -- at the left end
  pub left_goes : (c : ℕ) (t : List ℕ) → p c ≡ true → drop (prefix_len p (c ∷ t)) (c ∷ t) ≡ drop (prefix_len p t) t
  left_goes c t h = ap (λ n. drop n (c ∷ t)) (cond-true _ _ _ h ∙ one-add (prefix_len p t))

  pub left_stays : (c : ℕ) (t : List ℕ) → p c ≡ false → drop (prefix_len p (c ∷ t)) (c ∷ t) ≡ c ∷ t
  left_stays c t h = ap (λ n. drop n (c ∷ t)) (cond-false _ _ _ h)

  -- at the right end
  last_counts : (c : ℕ) (t : List ℕ) → suffix_len p (t ++ c ∷ []) ≡ cond (p c) (1 + suffix_len p t) 0
  last_counts c t = ap (prefix_len p) (reverse-append t (c ∷ []))

  short : (t : List ℕ) → suffix_len p t ≤ length t
  short t = omega (arith, prefix_len-le-length p (reverse t), length-reverse t)

  pub right_goes : (c : ℕ) (t : List ℕ) → p c ≡ true → take (length (t ++ c ∷ []) - suffix_len p (t ++ c ∷ [])) (t ++ c ∷ []) ≡ take (length t - suffix_len p t) t
  right_goes c t h =
      let n : suffix_len p (t ++ c ∷ []) ≡ 1 + suffix_len p t = last_counts c t ∙ cond-true _ _ _ h in
      let k : length (t ++ c ∷ []) - suffix_len p (t ++ c ∷ []) ≡ length t - suffix_len p t = omega (arith, length-append t (c ∷ [])) in
      ap (λ m. take m (t ++ c ∷ [])) k ∙ take-append-le (length t - suffix_len p t) t (c ∷ []) (omega arith)

  pub right_stays : (c : ℕ) (t : List ℕ) → p c ≡ false → take (length (t ++ c ∷ []) - suffix_len p (t ++ c ∷ [])) (t ++ c ∷ []) ≡ t ++ c ∷ []
  right_stays c t h = let n : suffix_len p (t ++ c ∷ []) ≡ 0 = last_counts c t ∙ cond-false _ _ _ h in take_all (length (t ++ c ∷ []) - suffix_len p (t ++ c ∷ [])) (t ++ c ∷ []) (omega arith)

pub trim_count : (ends : Ends) (call : List ℕ) (words : List (List ℕ)) → length words ≢ 2 → length words ≢ 3 → row_trim ends call words ≡ wrong_count call (usage_of (trim_usage ends))
trim_count ends call [] h k = refl
trim_count ends call (a ∷ []) h k = refl
trim_count ends call (a ∷ b ∷ []) h k = absurd (h refl)
trim_count ends call (a ∷ b ∷ c ∷ []) h k = absurd (k refl)
trim_count ends call (a ∷ b ∷ c ∷ d ∷ ws) h k = refl
