-- Laws of the words of a call that has four or five.
use Rattle.std.proofs.Common.{◌≡◌, ℕ, ◌-◌, ◌≤◌, List, [], ◌∷◌, length, get_or, refl, ap, ◌∙◌, arith}
use Rattle.tclv_value.specs.Stacks.{top}
use Rattle.tclv_reply.proofs.Laws.{first_word, three_words}

module _ {A : Type 0} (s : List A) (d : A) where
  pub four_words : (n : ℕ) → n ≡ 4 → 4 ≤ length s → top n s ≡ get_or s (length s - 4) d ∷ get_or s (length s - 3) d ∷ get_or s (length s - 2) d ∷ get_or s (length s - 1) d ∷ []
  four_words n e l = ap (λ k. top k s) e ∙ first_word s d 4 (omega arith) l ∙ ap (λ t. get_or s (length s - 4) d ∷ t) (three_words s d 3 refl (omega arith))

  pub five_words : (n : ℕ) → n ≡ 5 → 5 ≤ length s → top n s ≡ get_or s (length s - 5) d ∷ get_or s (length s - 4) d ∷ get_or s (length s - 3) d ∷ get_or s (length s - 2) d ∷ get_or s (length s - 1) d ∷ []
  five_words n e l = ap (λ k. top k s) e ∙ first_word s d 5 (omega arith) l ∙ ap (λ t. get_or s (length s - 5) d ∷ t) (four_words 4 refl (omega arith))
