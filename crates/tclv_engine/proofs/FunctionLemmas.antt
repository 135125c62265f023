-- What functions give, by the count of their arguments.
use Rattle.std.proofs.Common.{◌≡◌, ℕ, ◌+◌, ◌-◌, ◌<◌, ◌≤◌, List, [], ◌∷◌, length, drop, get_or, sym, ap, ◌∙◌, refl, arith}
use Rattle.std.specs.Prelude.{ℤ}
use Rattle.std.proofs.lemmas.List.{drop_more, at_drop_all}
use Rattle.tclv_value.specs.Stacks.{top}
use Rattle.tclv_engine.specs.declared.functions.Function.TheVariants as f
use Rattle.tclv_engine.specs.declared.functions.Pick.{Pick}
use Rattle.tclv_engine.specs.State.{Text, State}
use Rattle.tclv_engine.specs.Results.{bind}
use Rattle.tclv_engine.specs.Operations.{number, operand}
use Rattle.tclv_engine.specs.Functions.{apply, extreme, picked, picked_of, wrong_count}
use Rattle.tclv_engine.specs.Answers.{last_of}
use Rattle.tclv_engine.proofs.WordLemmas.{top_one, top_length}

absolute-by : {W : Type 0} → (name : Text) (xs : List Text) (st : (State W)) → (length xs ≡ 1 → ⊥) → wrong_count name st ≡ apply f.Absolute name xs st
absolute-by name [] st h = refl
absolute-by name (x ∷ []) st h = absurd (h refl)
absolute-by name (x ∷ y ∷ xs) st h = refl

whole-by : {W : Type 0} → (name : Text) (xs : List Text) (st : (State W)) → (length xs ≡ 1 → ⊥) → wrong_count name st ≡ apply f.Whole name xs st
whole-by name [] st h = refl
whole-by name (x ∷ []) st h = absurd (h refl)
whole-by name (x ∷ y ∷ xs) st h = refl

truth-by : {W : Type 0} → (name : Text) (xs : List Text) (st : (State W)) → (length xs ≡ 1 → ⊥) → wrong_count name st ≡ apply f.Truth name xs st
truth-by name [] st h = refl
truth-by name (x ∷ []) st h = absurd (h refl)
truth-by name (x ∷ y ∷ xs) st h = refl

module _ {W : Type 0} (name : Text) (stack : List Text) (n : ℕ) (st : (State W)) (l : n ≤ length stack) where
  pub absolute_refused : (n ≡ 1 → ⊥) → wrong_count name st ≡ apply f.Absolute name (top n stack) st
  absolute_refused h = absolute-by name (top n stack) st (λ e. h (sym (top_length stack n l) ∙ e))

  pub whole_refused : (n ≡ 1 → ⊥) → wrong_count name st ≡ apply f.Whole name (top n stack) st
  whole_refused h = whole-by name (top n stack) st (λ e. h (sym (top_length stack n l) ∙ e))

  pub truth_refused : (n ≡ 1 → ⊥) → wrong_count name st ≡ apply f.Truth name (top n stack) st
  truth_refused h = truth-by name (top n stack) st (λ e. h (sym (top_length stack n l) ∙ e))

-- one argument is the top text
pub argument : (stack : List Text) (n : ℕ) → n ≡ 1 → n ≤ length stack → top n stack ≡ last_of stack ∷ []
argument stack n e l = ap (λ k. top k stack) e ∙ top_one stack (length stack - 1) (omega (arith, e, l))

-- ---- max and min

pub extreme_none : {W : Type 0} → (pick : Pick) (name : Text) (stack : List Text) (n : ℕ) (st : (State W)) → n ≡ 0 → wrong_count name st ≡ extreme pick name (top n stack) st
extreme_none pick name stack n st e =
    sym (ap (λ k. extreme pick name (top k stack) st) e ∙ at_drop_all (λ xs. extreme pick name xs st) stack (length stack - 0) (omega arith))

pub extreme_some : {W : Type 0} → (pick : Pick) (name : Text) (stack : List Text) (n : ℕ) (st : (State W)) → 0 < n → n ≤ length stack →
    bind (operand name (get_or stack (length stack - n) []) st) (λ m s1. picked pick name m (drop (length stack - n + 1) stack) s1) ≡ extreme pick name (top n stack) st
extreme_some pick name stack n st some l = sym (ap (λ xs. extreme pick name xs st) (drop_more stack (length stack - n) [] (omega (arith, some, l))))

pub picked-step : {W : Type 0} → (pick : Pick) (name : Text) (m : ℤ) (stack : List Text) (i : ℕ) (st : (State W)) → i < length stack →
    bind (operand name (get_or stack i []) st) (λ n s1. picked pick name (picked_of pick m n) (drop (i + 1) stack) s1) ≡ picked pick name m (drop i stack) st
unfolding picked
picked-step pick name m stack i st h = sym (ap (λ xs. picked pick name m xs st) (drop_more stack i [] h))

pub picked-end : {W : Type 0} → (pick : Pick) (name : Text) (m : ℤ) (stack : List Text) (i : ℕ) (st : (State W)) → length stack ≤ i → number m st ≡ picked pick name m (drop i stack) st
unfolding picked
picked-end pick name m stack i st h = sym (at_drop_all (λ xs. picked pick name m xs st) stack i h)
