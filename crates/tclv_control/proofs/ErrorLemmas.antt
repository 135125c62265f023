-- The rows of `error` and `throw`, by the count of their words, and the errors that their calls raise.
use Rattle.std.proofs.Common.{◌≡◌, ℕ, zero, suc, ◌+◌, ◌-◌, ◌≤◌, List, [], ◌∷◌, length, sym, ap, ◌∙◌, refl, subst, arith, Ok, Err, Some, Result}
use Rattle.std.specs.Prelude.{IfOk, MatchResult, codes}
use Rattle.std.specs.Str.{chars}
use Rattle.std.proofs.lemmas.Str.{chars-nil}
use Rattle.tclv_io.specs.World.{World}
use Rattle.tclv_model.specs.Message.{text_of}
use Rattle.tclv_model.specs.ErrorCodes.{error_code}
use Rattle.tclv_model.specs.declared.messages.MessageId.TheVariants as message
use Rattle.tclv_model.specs.declared.error_codes.ErrorCode.TheVariants.{NoCode}
use Rattle.tclv_model.specs.declared.usages.Usage.TheVariants as command
use Rattle.tclv_model.specs.Usages.{usage_of}
use Rattle.tclv_value.specs.Stacks.{top}
use Rattle.tclv_engine.specs.declared.endings.End.{End}
use Rattle.tclv_engine.specs.declared.endings.End.TheVariants as end
use Rattle.tclv_engine.specs.declared.machine.Machine.{Machine}
use Rattle.tclv_engine.specs.State.{Text, State, state_of}
use Rattle.tclv_engine.specs.Results.{error}
use Rattle.tclv_engine.specs.Usages.{usage}
use Rattle.tclv_engine.specs.Answers.{Outer, Runs, SameState, Raises}
use Rattle.tclv_engine.specs.Plans.{Wanted, placed, as_plan}
use Rattle.tclv_engine.specs.declared.plans.Plan.{Plan}
use Rattle.tclv_engine.proofs.Leaves.{raise_runs, raises_as}
use Rattle.tclv_engine.proofs.WordLemmas.{top_two, top_three, top_four, top_length}
use Rattle.tclv_control.specs.ErrorRows.{wanted_error, wanted_throw, wanted_thrown, thrown}
use Rattle.tclv_control.specs.ErrorSteps.{RaisesThrown}

-- ---- by the count of words

error-many : {W : Type 0} (K : Type 0) (words : List Text) (st : (State W)) → (length words ≡ 2 → ⊥) → (length words ≡ 3 → ⊥) → (length words ≡ 4 → ⊥) →
    usage {A = Wanted K} (usage_of command.Error) words st ≡ wanted_error words st
error-many K [] st h i j = refl
error-many K (a ∷ []) st h i j = refl
error-many K (a ∷ b ∷ []) st h i j = absurd (h refl)
error-many K (a ∷ b ∷ c ∷ []) st h i j = absurd (i refl)
error-many K (a ∷ b ∷ c ∷ d ∷ []) st h i j = absurd (j refl)
error-many K (a ∷ b ∷ c ∷ d ∷ e ∷ ws) st h i j = refl

throw-many : {W : Type 0} (K : Type 0) (words : List Text) (st : (State W)) → (length words ≡ 3 → ⊥) → usage {A = Wanted K} (usage_of command.Throw) words st ≡ wanted_throw words st
throw-many K [] st h = refl
throw-many K (a ∷ []) st h = refl
throw-many K (a ∷ b ∷ []) st h = refl
throw-many K (a ∷ b ∷ c ∷ []) st h = absurd (h refl)
throw-many K (a ∷ b ∷ c ∷ d ∷ ws) st h = refl

module _ {W : Type 0} (K : Type 0) (stack : List Text) (n : ℕ) (st : (State W)) (l : n ≤ length stack) where
  pub error_two : (base : ℕ) → n ≡ 2 → base ≡ length stack - n → error {A = Wanted K} (placed stack (base + 1)) (codes "NONE") st ≡ wanted_error (top n stack) st
  error_two base e b = ap (λ ws. wanted_error ws st) (sym (ap (λ k. top k stack) e ∙ top_two stack base (omega (arith, e, l, b))))

  pub error_three : (base : ℕ) → n ≡ 3 → base ≡ length stack - n → error {A = Wanted K} (placed stack (base + 1)) (codes "NONE") st ≡ wanted_error (top n stack) st
  error_three base e b = ap (λ ws. wanted_error ws st) (sym (ap (λ k. top k stack) e ∙ top_three stack base (omega (arith, e, l, b))))

  pub error_four : (base : ℕ) → n ≡ 4 → base ≡ length stack - n → error {A = Wanted K} (placed stack (base + 1)) (placed stack (base + 3)) st ≡ wanted_error (top n stack) st
  error_four base e b = ap (λ ws. wanted_error ws st) (sym (ap (λ k. top k stack) e ∙ top_four stack base (omega (arith, e, l, b))))

  pub error_refused : (n ≡ 2 → ⊥) → (n ≡ 3 → ⊥) → (n ≡ 4 → ⊥) → usage {A = Wanted K} (usage_of command.Error) (top n stack) st ≡ wanted_error (top n stack) st
  error_refused h i j =
      let len = sym (top_length stack n l) in
      error-many K (top n stack) st (λ e. h (len ∙ e)) (λ e. i (len ∙ e)) (λ e. j (len ∙ e))

  pub throw_three : (base : ℕ) → n ≡ 3 → base ≡ length stack - n → wanted_thrown {K = K} (placed stack (base + 1)) (placed stack (base + 2)) st ≡ wanted_throw (top n stack) st
  throw_three base e b = ap (λ ws. wanted_throw ws st) (sym (ap (λ k. top k stack) e ∙ top_three stack base (omega (arith, e, l, b))))

  pub throw_refused : (n ≡ 3 → ⊥) → usage {A = Wanted K} (usage_of command.Throw) (top n stack) st ≡ wanted_throw (top n stack) st
  throw_refused h = throw-many K (top n stack) st (λ e. h (sym (top_length stack n l) ∙ e))

-- ---- what is raised

-- with a code that was read
pub raised_with : {X : Type 0} (code : Result Text X) (text text' wanted : Text) (stack : List Text) (e : End) → text ≡ text' → IfOk code (λ c. c ≡ wanted) →
    MatchResult code (λ c. Raises text c stack e) (λ _. e ≡ end.Memory) → Raises text' wanted stack e
raised_with (Ok c) text text' wanted stack e t i h = raises_as text text' c wanted stack e t i h
raised_with (Err x) text text' wanted stack e t i h = let P : End → Type 0 = λ y. Raises text' wanted stack y in subst P (sym h) tt

-- a code without parts, and one with some
pub thrown_none : (len : ℕ) (errorcode text : Text) (stack : List Text) (e : End) → len ≡ 0 → Raises (text_of message.EmptyErrorType (chars []) (chars [])) (error_code NoCode (chars [])) stack e →
    RaisesThrown len errorcode text stack e
thrown_none zero errorcode text stack e z h =
    raises_as _ _ _ _ stack e (ap (λ x. text_of message.EmptyErrorType x (chars [])) chars-nil ∙ ap (λ x. text_of message.EmptyErrorType [] x) chars-nil) (ap (λ x. error_code NoCode x) chars-nil) h
thrown_none (suc n) errorcode text stack e z h = absurd (omega (arith, z))

pub thrown_some : (len : ℕ) (errorcode text : Text) (stack : List Text) (e : End) → (len ≡ 0 → ⊥) → Raises text errorcode stack e → RaisesThrown len errorcode text stack e
thrown_some zero errorcode text stack e h k = absurd (h refl)
thrown_some (suc n) errorcode text stack e h k = k

pub thrown_runs : {W : Type 0} (K : Type 0) {here : Outer} (parts : List Text) (len : ℕ) (errorcode text : Text) (e : End) (old new : (Machine W)) (w : World) → here.told ≡ Some w → SameState old new →
    len ≡ length parts → RaisesThrown len errorcode text new.values.store.stack e →
    Runs {T = Plan K} (thrown {A = Wanted K} parts errorcode text (state_of old w)) as_plan (record { world = w; torn = here.torn; events = old.writes }) (Err e) new here
thrown_runs K [] len errorcode text e old new w told same l h =
    let P : ℕ → Type 0 = λ n. RaisesThrown n errorcode text new.values.store.stack e in
    raise_runs old told same (subst P l h)
thrown_runs K (p ∷ ps) len errorcode text e old new w told same l h =
    let P : ℕ → Type 0 = λ n. RaisesThrown n errorcode text new.values.store.stack e in
    raise_runs old told same (subst P l h)
