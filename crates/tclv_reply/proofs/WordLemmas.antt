-- Laws of the words of a call.
use Rattle.std.proofs.Common.{◌≡◌, ℕ, ◌+◌, ◌-◌, ◌<◌, ◌≤◌, List, [], ◌∷◌, length, drop, get_or, refl, ap, ◌∙◌, arith}
use Rattle.std.proofs.lemmas.List.{drop_more, drop_all, length-drop}
use Rattle.tclv_value.specs.Stacks.{top}

module _ {A : Type 0} (s : List A) (d : A) where
  pub no_words : top 0 s ≡ []
  no_words = drop_all (length s - 0) s (omega arith)

  -- the first of n words, and the rest
  pub first_word : (n : ℕ) → 0 < n → n ≤ length s → top n s ≡ get_or s (length s - n) d ∷ top (n - 1) s
  first_word n h l = let k : length s - n + 1 ≡ length s - (n - 1) = omega arith in drop_more s (length s - n) d (omega arith) ∙ ap (λ m. get_or s (length s - n) d ∷ drop m s) k

  pub count_words : (n : ℕ) → n ≤ length s → length (top n s) ≡ n
  count_words n l = omega (arith, length-drop (length s - n) s)

  pub one_word : (n : ℕ) → n ≡ 1 → 1 ≤ length s → top n s ≡ get_or s (length s - 1) d ∷ []
  one_word n e l = ap (λ k. top k s) e ∙ first_word 1 (omega arith) l ∙ ap (λ t. get_or s (length s - 1) d ∷ t) no_words

  pub two_words : (n : ℕ) → n ≡ 2 → 2 ≤ length s → top n s ≡ get_or s (length s - 2) d ∷ get_or s (length s - 1) d ∷ []
  two_words n e l = ap (λ k. top k s) e ∙ first_word 2 (omega arith) l ∙ ap (λ t. get_or s (length s - 2) d ∷ t) (one_word 1 refl (omega arith))

  pub three_words : (n : ℕ) → n ≡ 3 → 3 ≤ length s → top n s ≡ get_or s (length s - 3) d ∷ get_or s (length s - 2) d ∷ get_or s (length s - 1) d ∷ []
  three_words n e l = ap (λ k. top k s) e ∙ first_word 3 (omega arith) l ∙ ap (λ t. get_or s (length s - 3) d ∷ t) (two_words 2 refl (omega arith))

  pub two_and_more : (n : ℕ) → 2 ≤ n → n ≤ length s → top n s ≡ get_or s (length s - n) d ∷ get_or s (length s - n + 1) d ∷ top (n - 2) s
  two_and_more n h l =
      let k : length s - (n - 1) ≡ length s - n + 1 = omega arith in
      let m : n - 1 - 1 ≡ n - 2 = omega arith in
      first_word n (omega arith) l ∙ ap (λ t. get_or s (length s - n) d ∷ t) (first_word (n - 1) (omega arith) (omega arith) ∙ ap (λ i. get_or s i d ∷ top (n - 1 - 1) s) k ∙ ap (λ i. get_or s (length s - n + 1) d ∷ top i s) m)

  pub three_and_more : (n : ℕ) → 3 ≤ n → n ≤ length s → top n s ≡ get_or s (length s - n) d ∷ get_or s (length s - n + 1) d ∷ get_or s (length s - n + 2) d ∷ top (n - 3) s
  three_and_more n h l =
      let k : length s - (n - 2) ≡ length s - n + 2 = omega arith in
      let m : n - 2 - 1 ≡ n - 3 = omega arith in
      two_and_more n (omega arith) l
      ∙ ap (λ t. get_or s (length s - n) d ∷ get_or s (length s - n + 1) d ∷ t) (first_word (n - 2) (omega arith) (omega arith) ∙ ap (λ i. get_or s i d ∷ top (n - 2 - 1) s) k ∙ ap (λ i. get_or s (length s - n + 2) d ∷ top i s) m)
