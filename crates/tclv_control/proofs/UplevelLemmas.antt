-- The row of `uplevel`, by the count of its words and the form of the first.
use Rattle.std.proofs.Common.{◌≡◌, ℕ, suc, ◌+◌, ◌-◌, ◌<◌, ◌≤◌, List, [], ◌∷◌, length, drop, get_or, sym, ap, ◌∙◌, refl, arith, true, false}
use Rattle.std.proofs.lemmas.List.{drop_more}
use Rattle.std.proofs.lemmas.Bool.{cond-true, cond-false}
use Rattle.tclv_model.specs.declared.usages.Usage.TheVariants as command
use Rattle.tclv_model.specs.Usages.{usage_of}
use Rattle.tclv_value.specs.Stacks.{top}
use Rattle.tclv_engine.specs.State.{Text, State}
use Rattle.tclv_engine.specs.Names.{bytes_of}
use Rattle.tclv_engine.specs.Usages.{usage}
use Rattle.tclv_engine.specs.Links.{is_level, level, outer_level}
use Rattle.tclv_engine.proofs.WordLemmas.{top_length}
use Rattle.tclv_control.specs.LevelRows.{run_at, wanted_uplevel}

-- ---- by the words

no-words : {W K : Type 0} → (hand_on : K) (words : List Text) (st : State W) → length words ≡ 1 → usage (usage_of command.Uplevel) words st ≡ wanted_uplevel hand_on words st
no-words hand_on [] st h = refl
no-words hand_on (a ∷ []) st h = refl
no-words hand_on (a ∷ b ∷ ws) st h = absurd (omega (arith, h))

one-word : {W K : Type 0} → (hand_on : K) (word : Text) (args : List Text) (st : State W) → length args ≡ 1 → run_at hand_on args (outer_level st) ≡ wanted_uplevel hand_on (word ∷ args) st
one-word hand_on word [] st h = absurd (omega (arith, h))
one-word hand_on word (a ∷ []) st h = refl
one-word hand_on word (a ∷ b ∷ ws) st h = absurd (omega (arith, h))

level-word : {W K : Type 0} → (hand_on : K) (word first : Text) (args : List Text) (st : State W) → 0 < length args → is_level (bytes_of first) ≡ true →
    run_at hand_on args (level first st) ≡ wanted_uplevel hand_on (word ∷ first ∷ args) st
level-word hand_on word first [] st h is = absurd (omega (arith, h))
level-word hand_on word first (arg ∷ args) st h is = sym (cond-true _ _ _ is)

other-word : {W K : Type 0} → (hand_on : K) (word first : Text) (args : List Text) (st : State W) → 0 < length args → is_level (bytes_of first) ≡ false →
    run_at hand_on (first ∷ args) (outer_level st) ≡ wanted_uplevel hand_on (word ∷ first ∷ args) st
other-word hand_on word first [] st h is = absurd (omega (arith, h))
other-word hand_on word first (arg ∷ args) st h is = sym (cond-false _ _ _ is)

-- ---- by the stack

-- the lowest of the words, and those above it
one-off : (stack : List Text) (n : ℕ) → 0 < n → n ≤ length stack → top n stack ≡ get_or stack (length stack - n) [] ∷ top (n - 1) stack
one-off stack n some l =
    let next : length stack - (n - 1) ≡ length stack - n + 1 = omega (arith, some, l) in
    drop_more stack (length stack - n) [] (omega (arith, some, l)) ∙ ap (λ ws. get_or stack (length stack - n) [] ∷ ws) (sym (ap (λ i. drop i stack) next))

two-off : (stack : List Text) (n : ℕ) → 1 < n → n ≤ length stack → top (n - 1) stack ≡ get_or stack (length stack - (n - 1)) [] ∷ top (n - 2) stack
two-off stack n some l =
    let less : n - 1 - 1 ≡ n - 2 = omega arith in
    one-off stack (n - 1) (omega (arith, some)) (omega (arith, l)) ∙ ap (λ k. get_or stack (length stack - (n - 1)) [] ∷ top k stack) less

module _ {W K : Type 0} (hand_on : K) (stack : List Text) (n : ℕ) (st : State W) (l : n ≤ length stack) where
  pub uplevel_refused : n ≡ 1 → usage (usage_of command.Uplevel) (top n stack) st ≡ wanted_uplevel hand_on (top n stack) st
  uplevel_refused e = no-words hand_on (top n stack) st (top_length stack n l ∙ e)

  pub uplevel_one : n ≡ 2 → run_at hand_on (top 1 stack) (outer_level st) ≡ wanted_uplevel hand_on (top n stack) st
  uplevel_one e =
      let less : n - 1 ≡ 1 = omega (arith, e) in
      one-word hand_on (get_or stack (length stack - n) []) (top 1 stack) st (top_length stack 1 (omega (arith, l, e)))
      ∙ ap (λ k. wanted_uplevel hand_on (get_or stack (length stack - n) [] ∷ top k stack) st) (sym less)
      ∙ ap (λ ws. wanted_uplevel hand_on ws st) (sym (one-off stack n (omega (arith, e)) l))

  more : 2 < n → get_or stack (length stack - n) [] ∷ get_or stack (length stack - (n - 1)) [] ∷ top (n - 2) stack ≡ top n stack
  more h = ap (λ ws. get_or stack (length stack - n) [] ∷ ws) (sym (two-off stack n (omega (arith, h)) l)) ∙ sym (one-off stack n (omega (arith, h)) l)

  args : 2 < n → 0 < length (top (n - 2) stack)
  args h =
      let len : length (top (n - 2) stack) ≡ n - 2 = top_length stack (n - 2) (omega (arith, l)) in
      omega (arith, len, h)

  pub uplevel_level : 2 < n → is_level (bytes_of (get_or stack (length stack - (n - 1)) [])) ≡ true →
      run_at hand_on (top (n - 2) stack) (level (get_or stack (length stack - (n - 1)) []) st) ≡ wanted_uplevel hand_on (top n stack) st
  uplevel_level h is =
      level-word hand_on (get_or stack (length stack - n) []) (get_or stack (length stack - (n - 1)) []) (top (n - 2) stack) st (args h) is ∙ ap (λ ws. wanted_uplevel hand_on ws st) (more h)

  pub uplevel_other : 2 < n → is_level (bytes_of (get_or stack (length stack - (n - 1)) [])) ≡ false →
      run_at hand_on (top (n - 1) stack) (outer_level st) ≡ wanted_uplevel hand_on (top n stack) st
  uplevel_other h is =
      ap (λ ws. run_at hand_on ws (outer_level st)) (two-off stack n (omega (arith, h)) l)
      ∙ other-word hand_on (get_or stack (length stack - n) []) (get_or stack (length stack - (n - 1)) []) (top (n - 2) stack) st (args h) is
      ∙ ap (λ ws. wanted_uplevel hand_on ws st) (more h)
