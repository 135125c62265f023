-- The rows of `break` and `continue`, by the count of their words.
use Rattle.std.proofs.Common.{◌≡◌, ℕ, ◌-◌, ◌≤◌, List, [], ◌∷◌, length, sym, ap, ◌∙◌, refl, arith}
use Rattle.std.specs.Prelude.{codes}
use Rattle.tclv_value.specs.Stacks.{top}
use Rattle.tclv_model.specs.declared.outcomes.Code.TheVariants as code
use Rattle.tclv_model.specs.declared.usages.Usage.TheVariants as command
use Rattle.tclv_model.specs.Usages.{usage_of}
use Rattle.tclv_engine.specs.State.{Text, State}
use Rattle.tclv_engine.specs.Results.{Left, ends, code_options}
use Rattle.tclv_engine.specs.Usages.{usage}
use Rattle.tclv_plain.specs.LoopRows.{row_break, row_continue}
use Rattle.tclv_engine.proofs.WordLemmas.{top_one, top_length}

pub break_alone : {W : Type 0} → (stack : List Text) (n : ℕ) (st : (State W)) → n ≡ 1 → n ≤ length stack → ends (Left code.Break [] (code_options (codes "3"))) st ≡ row_break (top n stack) st
break_alone stack n st e h =
    ap (λ ws. row_break ws st) (sym (ap (λ k. top k stack) e ∙ top_one stack (length stack - 1) (omega (arith, e))))

pub continue_alone : {W : Type 0} → (stack : List Text) (n : ℕ) (st : (State W)) → n ≡ 1 → n ≤ length stack → ends (Left code.Continue [] (code_options (codes "4"))) st ≡ row_continue (top n stack) st
continue_alone stack n st e h =
    ap (λ ws. row_continue ws st) (sym (ap (λ k. top k stack) e ∙ top_one stack (length stack - 1) (omega (arith, e))))

break-many : {W : Type 0} → (words : List Text) (st : (State W)) → (length words ≡ 1 → ⊥) → usage (usage_of command.Break) words st ≡ row_break words st
break-many [] st h = refl
break-many (a ∷ []) st h = absurd (h refl)
break-many (a ∷ b ∷ ws) st h = refl

continue-many : {W : Type 0} → (words : List Text) (st : (State W)) → (length words ≡ 1 → ⊥) → usage (usage_of command.Continue) words st ≡ row_continue words st
continue-many [] st h = refl
continue-many (a ∷ []) st h = absurd (h refl)
continue-many (a ∷ b ∷ ws) st h = refl

pub break_refused : {W : Type 0} → (stack : List Text) (n : ℕ) (st : (State W)) → n ≤ length stack → (n ≡ 1 → ⊥) → usage (usage_of command.Break) (top n stack) st ≡ row_break (top n stack) st
break_refused stack n st l h = break-many (top n stack) st (λ e. h (sym (top_length stack n l) ∙ e))

pub continue_refused : {W : Type 0} → (stack : List Text) (n : ℕ) (st : (State W)) → n ≤ length stack → (n ≡ 1 → ⊥) → usage (usage_of command.Continue) (top n stack) st ≡ row_continue (top n stack) st
continue_refused stack n st l h = continue-many (top n stack) st (λ e. h (sym (top_length stack n l) ∙ e))
