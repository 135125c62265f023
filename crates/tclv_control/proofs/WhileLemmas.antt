-- The rows of `while` and `for`, by the count of their words.
use Rattle.std.proofs.Common.{◌≡◌, ℕ, ◌+◌, ◌-◌, ◌≤◌, List, [], ◌∷◌, length, sym, ap, ◌∙◌, refl, arith}
use Rattle.tclv_model.specs.declared.usages.Usage.TheVariants as command
use Rattle.tclv_model.specs.Usages.{usage_of}
use Rattle.tclv_value.specs.Stacks.{top}
use Rattle.tclv_engine.specs.State.{Text, State}
use Rattle.tclv_engine.specs.Results.{done}
use Rattle.tclv_engine.specs.Usages.{usage}
use Rattle.tclv_engine.specs.Plans.{Wanted, Tested, Started, placed}
use Rattle.tclv_engine.proofs.WordLemmas.{top_three, top_five, top_length}
use Rattle.tclv_control.specs.WhileRows.{wanted_while, wanted_for}

while-many : {W K : Type 0} → (words : List Text) (st : (State W)) → (length words ≡ 3 → ⊥) → usage {A = Wanted K} (usage_of command.While) words st ≡ wanted_while words st
while-many [] st h = refl
while-many (a ∷ []) st h = refl
while-many (a ∷ b ∷ []) st h = refl
while-many (a ∷ b ∷ c ∷ []) st h = absurd (h refl)
while-many (a ∷ b ∷ c ∷ d ∷ ws) st h = refl

for-many : {W K : Type 0} → (words : List Text) (st : (State W)) → (length words ≡ 5 → ⊥) → usage {A = Wanted K} (usage_of command.For) words st ≡ wanted_for words st
for-many [] st h = refl
for-many (a ∷ []) st h = refl
for-many (a ∷ b ∷ []) st h = refl
for-many (a ∷ b ∷ c ∷ []) st h = refl
for-many (a ∷ b ∷ c ∷ d ∷ []) st h = refl
for-many (a ∷ b ∷ c ∷ d ∷ e ∷ []) st h = absurd (h refl)
for-many (a ∷ b ∷ c ∷ d ∷ e ∷ f ∷ ws) st h = refl

module _ {W : Type 0} (K : Type 0) (stack : List Text) (n : ℕ) (st : (State W)) (l : n ≤ length stack) where
  pub while_three : (base : ℕ) → n ≡ 3 → base ≡ length stack - n → done {A = Wanted K} (Tested (placed stack (base + 1)) (placed stack (base + 2))) st ≡ wanted_while (top n stack) st
  while_three base e b = ap (λ ws. wanted_while ws st) (sym (ap (λ k. top k stack) e ∙ top_three stack base (omega (arith, e, l, b))))

  pub while_refused : (n ≡ 3 → ⊥) → usage {A = Wanted K} (usage_of command.While) (top n stack) st ≡ wanted_while (top n stack) st
  while_refused h = while-many (top n stack) st (λ e. h (sym (top_length stack n l) ∙ e))

  pub for_five : (base : ℕ) → n ≡ 5 → base ≡ length stack - n →
      done {A = Wanted K} (Started (placed stack (base + 1)) (placed stack (base + 2)) (placed stack (base + 3)) (placed stack (base + 4))) st ≡ wanted_for (top n stack) st
  for_five base e b = ap (λ ws. wanted_for ws st) (sym (ap (λ k. top k stack) e ∙ top_five stack base (omega (arith, e, l, b))))

  pub for_refused : (n ≡ 5 → ⊥) → usage {A = Wanted K} (usage_of command.For) (top n stack) st ≡ wanted_for (top n stack) st
  for_refused h = for-many (top n stack) st (λ e. h (sym (top_length stack n l) ∙ e))
