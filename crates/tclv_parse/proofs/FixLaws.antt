-- Recursion on shorter texts.
use Rattle.std.proofs.Common.{◌≡◌, ℕ, zero, suc, ◌<◌, ◌≤◌, length, refl, arith, ◌∙◌}
use Rattle.tclv_parse.specs.Runs.{Text}
use Rattle.tclv_parse.specs.Fix.{go, fix, IsLocal}

module _ {A : Type 0} (step : (Text → A) → Text → A) (stuck : A) (local : IsLocal step) where
  enough : (n m : ℕ) (t : Text) → length t ≤ n → length t ≤ m → go step stuck n t ≡ go step stuck m t
  unfolding go
  enough zero zero t p q = refl
  enough zero (suc m) t p q = local _ _ t (λ u h. absurd (omega arith))
  enough (suc n) zero t p q = local _ _ t (λ u h. absurd (omega arith))
  enough (suc n) (suc m) t p q = local _ _ t (λ u h. enough n m u (omega arith) (omega arith))

  once : (t : Text) → go step stuck (suc (length t)) t ≡ step (fix step stuck) t
  unfolding go fix
  once t = local _ _ t (λ u h. enough (length t) (length u) u (omega arith) (omega arith))

  pub fix-is : (t : Text) → fix step stuck t ≡ step (fix step stuck) t
  unfolding fix
  fix-is t = enough (length t) (suc (length t)) t (omega arith) (omega arith) ∙ once t

-- what holds of a step holds of its fixed point
module _ {A : Type 0} (step : (Text → A) → Text → A) (stuck : A) (P : Text → A → Type 0)
    (keeps : (f : Text → A) (t : Text) → ((u : Text) → length u < length t → P u (f u)) → P t (step f t)) where
  held : (n : ℕ) (t : Text) → length t ≤ n → P t (go step stuck n t)
  unfolding go
  held zero t p = keeps _ t (λ u h. absurd (omega arith))
  held (suc n) t p = keeps _ t (λ u h. held n u (omega arith))

  pub fix-holds : (t : Text) → P t (fix step stuck t)
  unfolding fix
  fix-holds t = held (length t) t (omega arith)

-- two recursions side by side
module _ {A B : Type 0} (step : (Text → A) → Text → A) (stuck : A) (step' : (Text → B) → Text → B) (stuck' : B) (R : Text → A → B → Type 0)
    (keeps : (f : Text → A) (g : Text → B) (t : Text) → ((u : Text) → length u < length t → R u (f u) (g u)) → R t (step f t) (step' g t)) where
  held_both : (n : ℕ) (t : Text) → length t ≤ n → R t (go step stuck n t) (go step' stuck' n t)
  unfolding go
  held_both zero t p = keeps _ _ t (λ u h. absurd (omega arith))
  held_both (suc n) t p = keeps _ _ t (λ u h. held_both n u (omega arith))

  pub fix-both : (t : Text) → R t (fix step stuck t) (fix step' stuck' t)
  unfolding fix
  fix-both t = held_both (length t) t (omega arith)
