-- The rows of subcommands, by the count of the words.
use Rattle.std.proofs.Common.{◌≡◌, ℕ, ◌+◌, ◌-◌, ◌<◌, ◌≤◌, Bool, true, false, List, [], ◌∷◌, length, drop, get_or, sym, ap, ◌∙◌, refl, arith, Option, Some, None}
use Rattle.std.specs.Prelude.{codes}
use Rattle.std.specs.Str.{chars}
use Rattle.std.proofs.lemmas.List.{drop_more}
use Rattle.tclv_model.specs.declared.usages.Usage.{Usage}
use Rattle.tclv_model.specs.Usages.{usage_of}
use Rattle.tclv_value.specs.Stacks.{top}
use Rattle.tclv_engine.specs.State.{Text, State}
use Rattle.tclv_engine.specs.Results.{Res, Outcome}
use Rattle.tclv_engine.specs.Usages.{usage}
use Rattle.tclv_engine.proofs.WordLemmas.{top_three, top_four, top_length}
use Rattle.tclv_plain.specs.Subcommands.{flag, with_one, with_two, with_more}

-- ---- yes and no

yes-text : chars (codes "1") ≡ codes "1"
unfolding chars
yes-text = refl

no-text : chars (codes "0") ≡ codes "0"
unfolding chars
no-text = refl

pub flag_yes : (is : Bool) → is ≡ true → chars (codes "1") ≡ flag is
flag_yes is h = yes-text ∙ sym (ap flag h)

pub flag_no : (is : Bool) → is ≡ false → chars (codes "0") ≡ flag is
flag_no is h = no-text ∙ sym (ap flag h)

-- ---- one argument

one-else : {W : Type 0} → (shown : Usage) (row : Text → State W → Res W Outcome) (words : List Text) (st : State W) → (length words ≡ 3 → ⊥) →
    usage (usage_of shown) words st ≡ with_one shown row words st
one-else shown row [] st h = refl
one-else shown row (a ∷ []) st h = refl
one-else shown row (a ∷ b ∷ []) st h = refl
one-else shown row (a ∷ b ∷ c ∷ []) st h = absurd (h refl)
one-else shown row (a ∷ b ∷ c ∷ d ∷ ws) st h = refl

two-else : {W : Type 0} → (shown : Usage) (row : Text → Text → State W → Res W Outcome) (words : List Text) (st : State W) → (length words ≡ 4 → ⊥) →
    usage (usage_of shown) words st ≡ with_two shown row words st
two-else shown row [] st h = refl
two-else shown row (a ∷ []) st h = refl
two-else shown row (a ∷ b ∷ []) st h = refl
two-else shown row (a ∷ b ∷ c ∷ []) st h = refl
two-else shown row (a ∷ b ∷ c ∷ d ∷ []) st h = absurd (h refl)
two-else shown row (a ∷ b ∷ c ∷ d ∷ e ∷ ws) st h = refl

more-else : {W : Type 0} → (shown : Usage) (row : Text → Option Text → State W → Res W Outcome) (words : List Text) (st : State W) → (length words ≡ 3 → ⊥) → (length words ≡ 4 → ⊥) →
    usage (usage_of shown) words st ≡ with_more shown row words st
more-else shown row [] st h k = refl
more-else shown row (a ∷ []) st h k = refl
more-else shown row (a ∷ b ∷ []) st h k = refl
more-else shown row (a ∷ b ∷ c ∷ []) st h k = absurd (h refl)
more-else shown row (a ∷ b ∷ c ∷ d ∷ []) st h k = absurd (k refl)
more-else shown row (a ∷ b ∷ c ∷ d ∷ e ∷ ws) st h k = refl

module _ {W : Type 0} (shown : Usage) (stack : List Text) (n base : ℕ) (st : State W) (l : n ≤ length stack) (b : base ≡ length stack - n) where
  three : n ≡ 3 → top n stack ≡ get_or stack base [] ∷ get_or stack (base + 1) [] ∷ get_or stack (base + 2) [] ∷ []
  three e = ap (λ k. top k stack) e ∙ top_three stack base (omega (arith, e, l, b))

  four : n ≡ 4 → top n stack ≡ get_or stack base [] ∷ get_or stack (base + 1) [] ∷ get_or stack (base + 2) [] ∷ get_or stack (base + 3) [] ∷ []
  four e = ap (λ k. top k stack) e ∙ top_four stack base (omega (arith, e, l, b))

  pub one_given : (row : Text → State W → Res W Outcome) → n ≡ 3 → row (get_or stack (base + 2) []) st ≡ with_one shown row (top n stack) st
  one_given row e = ap (λ ws. with_one shown row ws st) (sym (three e))

  pub two_given : (row : Text → Text → State W → Res W Outcome) → n ≡ 4 → row (get_or stack (base + 2) []) (get_or stack (base + 3) []) st ≡ with_two shown row (top n stack) st
  two_given row e = ap (λ ws. with_two shown row ws st) (sym (four e))

  pub more_one : (row : Text → Option Text → State W → Res W Outcome) → n ≡ 3 → row (get_or stack (base + 2) []) None st ≡ with_more shown row (top n stack) st
  more_one row e = ap (λ ws. with_more shown row ws st) (sym (three e))

  pub more_two : (row : Text → Option Text → State W → Res W Outcome) → n ≡ 4 → row (get_or stack (base + 2) []) (Some (get_or stack (base + 3) [])) st ≡ with_more shown row (top n stack) st
  more_two row e = ap (λ ws. with_more shown row ws st) (sym (four e))

  pub one_refused : (row : Text → State W → Res W Outcome) → (n ≡ 3 → ⊥) → usage (usage_of shown) (top n stack) st ≡ with_one shown row (top n stack) st
  one_refused row h = one-else shown row (top n stack) st (λ e. h (sym (top_length stack n l) ∙ e))

  pub two_refused : (row : Text → Text → State W → Res W Outcome) → (n ≡ 4 → ⊥) → usage (usage_of shown) (top n stack) st ≡ with_two shown row (top n stack) st
  two_refused row h = two-else shown row (top n stack) st (λ e. h (sym (top_length stack n l) ∙ e))

  pub more_refused : (row : Text → Option Text → State W → Res W Outcome) → (n ≡ 3 → ⊥) → (n ≡ 4 → ⊥) → usage (usage_of shown) (top n stack) st ≡ with_more shown row (top n stack) st
  more_refused row h k = more-else shown row (top n stack) st (λ e. h (sym (top_length stack n l) ∙ e)) (λ e. k (sym (top_length stack n l) ∙ e))

-- the words begin with the word of the call and the subcommand
pub two_first : (stack : List Text) (n base : ℕ) → 1 < n → n ≤ length stack → base ≡ length stack - n → top n stack ≡ get_or stack base [] ∷ get_or stack (base + 1) [] ∷ drop (base + 2) stack
two_first stack n base some l b =
    let next : base + 1 + 1 ≡ base + 2 = omega arith in
    ap (λ k. drop k stack) (sym b)
    ∙ drop_more stack base [] (omega (arith, b, some, l))
    ∙ ap (λ ws. get_or stack base [] ∷ ws) (drop_more stack (base + 1) [] (omega (arith, b, some, l)))
    ∙ ap (λ k. get_or stack base [] ∷ get_or stack (base + 1) [] ∷ drop k stack) next
