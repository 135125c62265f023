-- The rows of `eval` and `expr`, by the count of their words, and the text that their words make.
use Rattle.std.proofs.Common.{◌≡◌, ℕ, zero, suc, ◌+◌, ◌-◌, ◌<◌, ◌≤◌, List, [], ◌∷◌, ◌++◌, length, drop, get_or, sym, ap, ◌∙◌, refl, arith, length-append, length-take}
use Rattle.std.proofs.lemmas.List.{drop_more}
use Rattle.tclv_model.specs.declared.usages.Usage.TheVariants as command
use Rattle.tclv_model.specs.Usages.{usage_of}
use Rattle.tclv_value.specs.Stacks.{top, under}
use Rattle.tclv_lists.specs.Joining.{concatenated}
use Rattle.tclv_engine.specs.State.{Text, State}
use Rattle.tclv_engine.specs.Results.{done}
use Rattle.tclv_engine.specs.Usages.{usage}
use Rattle.tclv_engine.specs.Plans.{Wanted, Run, Value, placed}
use Rattle.tclv_engine.proofs.StackLemmas.{last-push}
use Rattle.tclv_engine.proofs.WordLemmas.{top_length}
use Rattle.tclv_control.specs.ScriptRows.{wanted_eval, wanted_expr}

eval-one : {W K : Type 0} → (hand_on : K) (words : List Text) (st : (State W)) → length words ≡ 1 → usage (usage_of command.Eval) words st ≡ wanted_eval hand_on words st
eval-one hand_on [] st h = refl
eval-one hand_on (a ∷ []) st h = refl
eval-one hand_on (a ∷ b ∷ ws) st h = absurd (omega (arith, h))

expr-one : {W : Type 0} → (K : Type 0) (words : List Text) (st : (State W)) → length words ≡ 1 → usage {A = Wanted K} (usage_of command.Expr) words st ≡ wanted_expr words st
expr-one K [] st h = refl
expr-one K (a ∷ []) st h = refl
expr-one K (a ∷ b ∷ ws) st h = absurd (omega (arith, h))

eval-some : {W K : Type 0} → (hand_on : K) (word : Text) (args : List Text) (st : (State W)) → 0 < length args → done (Run (concatenated args) hand_on) st ≡ wanted_eval hand_on (word ∷ args) st
eval-some hand_on word [] st h = absurd (omega (arith, h))
eval-some hand_on word (arg ∷ args) st h = refl

expr-some : {W : Type 0} → (K : Type 0) (word : Text) (args : List Text) (st : (State W)) → 0 < length args → done {A = Wanted K} (Value (concatenated args)) st ≡ wanted_expr (word ∷ args) st
expr-some K word [] st h = absurd (omega (arith, h))
expr-some K word (arg ∷ args) st h = refl

pub not-one : (n : ℕ) → 0 < n → (n ≡ 1 → ⊥) → 0 < n - 1
not-one zero h k = absurd (omega (arith, h))
not-one (suc zero) h k = absurd (k refl)
not-one (suc (suc m)) h k = omega arith

-- the words are the word of the call and those behind it
call-and-args : (stack : List Text) (n : ℕ) → 0 < n → n ≤ length stack → top n stack ≡ get_or stack (length stack - n) [] ∷ top (n - 1) stack
call-and-args stack n some l =
    let base = length stack - n in
    let next : length stack - (n - 1) ≡ base + 1 = omega (arith, some, l) in
    drop_more stack base [] (omega (arith, some, l)) ∙ ap (λ ws. get_or stack base [] ∷ ws) (sym (ap (λ i. drop i stack) next))

args-length : (stack : List Text) (n : ℕ) → 0 < n → (n ≡ 1 → ⊥) → n ≤ length stack → 0 < length (top (n - 1) stack)
args-length stack n some one l =
    let len : length (top (n - 1) stack) ≡ n - 1 = top_length stack (n - 1) (omega (arith, l)) in
    let two = not-one n some one in
    omega (arith, len, two)

module _ {W K : Type 0} (stack : List Text) (n : ℕ) (st : (State W)) (l : n ≤ length stack) where
  pub eval_refused : (hand_on : K) → n ≡ 1 → usage (usage_of command.Eval) (top n stack) st ≡ wanted_eval hand_on (top n stack) st
  eval_refused hand_on e = eval-one hand_on (top n stack) st (top_length stack n l ∙ e)

  pub expr_refused : n ≡ 1 → usage {A = Wanted K} (usage_of command.Expr) (top n stack) st ≡ wanted_expr (top n stack) st
  expr_refused e = expr-one K (top n stack) st (top_length stack n l ∙ e)

  pub eval_joined : (hand_on : K) → 0 < n → (n ≡ 1 → ⊥) → done (Run (concatenated (top (n - 1) stack)) hand_on) st ≡ wanted_eval hand_on (top n stack) st
  eval_joined hand_on some one =
      eval-some hand_on (get_or stack (length stack - n) []) (top (n - 1) stack) st (args-length stack n some one l) ∙ ap (λ ws. wanted_eval hand_on ws st) (sym (call-and-args stack n some l))

  pub expr_joined : 0 < n → (n ≡ 1 → ⊥) → done {A = Wanted K} (Value (concatenated (top (n - 1) stack))) st ≡ wanted_expr (top n stack) st
  expr_joined some one =
      expr-some K (get_or stack (length stack - n) []) (top (n - 1) stack) st (args-length stack n some one l) ∙ ap (λ ws. wanted_expr ws st) (sym (call-and-args stack n some l))

-- ---- the text that stands in place of words

module _ (k : ℕ) (stack now : List Text) (text : Text) (l : k ≤ length stack) (e : now ≡ under k stack ++ text ∷ []) where
  -- its place
  pub joined_at : (at : ℕ) → at ≡ length stack - k → text ≡ placed now at
  joined_at at h =
      let len : length now - 1 ≡ at = omega (arith, h, l, ap length e, length-append (under k stack) (text ∷ []), length-take (length stack - k) stack) in
      sym (ap (λ i. get_or now i []) (sym len) ∙ ap (λ s. get_or s (length s - 1) []) e ∙ last-push (under k stack) text)
