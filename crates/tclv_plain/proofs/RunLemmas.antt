-- The words of `exit`.
use Rattle.std.proofs.Common.{◌≡◌, ℕ, ◌+◌, ◌-◌, ◌≤◌, List, [], ◌∷◌, length, get_or, sym, ap, ◌∙◌, refl, arith}
use Rattle.tclv_model.specs.declared.usages.Usage.TheVariants as command
use Rattle.tclv_model.specs.Usages.{usage_of}
use Rattle.tclv_value.specs.Stacks.{top}
use Rattle.tclv_engine.specs.State.{Text, State}
use Rattle.tclv_engine.specs.Results.{Exit, ends}
use Rattle.tclv_engine.specs.Usages.{usage}
use Rattle.tclv_plain.specs.RunRows.{exit_with, row_exit}
use Rattle.tclv_engine.proofs.WordLemmas.{top_one, top_two, top_length}

row_of : {W : Type 0} → (words words' : List Text) (st : (State W)) → words ≡ words' → row_exit words' st ≡ row_exit words st
row_of words words' st e = ap (λ ws. row_exit ws st) (sym e)

pub exit_alone : {W : Type 0} → (stack : List Text) (n : ℕ) (st : (State W)) → n ≡ 1 → n ≤ length stack → ends (Exit 0) st ≡ row_exit (top n stack) st
exit_alone stack n st e h =
    row_of (top n stack) _ st (ap (λ k. top k stack) e ∙ top_one stack (length stack - 1) (omega (arith, e)))

pub exit_number : {W : Type 0} → (stack : List Text) (n base : ℕ) (st : (State W)) → n ≡ 2 → n ≤ length stack → base ≡ length stack - n → exit_with (get_or stack (base + 1) []) st ≡ row_exit (top n stack) st
exit_number stack n base st e h b =
    row_of (top n stack) _ st (ap (λ k. top k stack) e ∙ top_two stack base (omega (arith, e, b)))

many : {W : Type 0} → (words : List Text) (st : (State W)) → (length words ≡ 1 → ⊥) → (length words ≡ 2 → ⊥) → usage (usage_of command.Exit) words st ≡ row_exit words st
many [] st h k = refl
many (a ∷ []) st h k = absurd (h refl)
many (a ∷ b ∷ []) st h k = absurd (k refl)
many (a ∷ b ∷ c ∷ ws) st h k = refl

pub exit_refused : {W : Type 0} → (stack : List Text) (n : ℕ) (st : (State W)) → n ≤ length stack → (n ≡ 1 → ⊥) → (n ≡ 2 → ⊥) → usage (usage_of command.Exit) (top n stack) st ≡ row_exit (top n stack) st
exit_refused stack n st l h k =
    let len = top_length stack n l in
    many (top n stack) st (λ e. h (sym len ∙ e)) (λ e. k (sym len ∙ e))
