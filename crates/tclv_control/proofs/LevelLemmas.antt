-- The outcome of a procedure, by the level of a return.
use Rattle.std.proofs.Common.{◌≡◌, ℕ, zero, suc, ◌-◌, ◌<◌, List, length, length-take, take, take-take, arith, refl, ap, sym, ◌∙◌, Err}
use Rattle.tclv_model.specs.declared.outcomes.Code.TheVariants as code
use Rattle.tclv_model.specs.declared.outcomes.Pair.{Pair}
use Rattle.tclv_value.specs.Stacks.{under}
use Rattle.tclv_engine.specs.declared.endings.Carried.TheVariants.{Plain}
use Rattle.tclv_engine.specs.declared.endings.End.{End}
use Rattle.tclv_engine.specs.declared.endings.End.TheVariants as end
use Rattle.tclv_engine.specs.State.{Text, State}
use Rattle.tclv_engine.specs.Results.{Res, carried}
use Rattle.tclv_engine.specs.Answers.{Above, KeepsStack, Leaves}
use Rattle.tclv_engine.specs.Plans.{Wanted}
use Rattle.tclv_control.specs.HandingOn.{hand_on}
use Rattle.tclv_control.specs.Levels.{stored_code, lowered, returned_from}

-- ---- by the level

module _ {W K : Type 0} (text : Text) (options : List Pair) (st : State W) where
  pub returned-zero : (n : ℕ) → n ≡ 0 → hand_on {W = W} {K = K} code.Ok text (carried code.Ok Plain) st ≡ returned_from n text options st
  returned-zero zero h = refl
  returned-zero (suc n) h = absurd (omega (arith, h))

  pub returned-one : (n : ℕ) → n ≡ 1 → lowered {W = W} {K = K} 0 (stored_code options) text options st ≡ returned_from n text options st
  returned-one zero h = absurd (omega (arith, h))
  returned-one (suc zero) h = refl
  returned-one (suc (suc n)) h = absurd (omega (arith, h))

  pub returned-more : (n : ℕ) → 1 < n → lowered {W = W} {K = K} (n - 1) code.Return text options st ≡ returned_from n text options st
  returned-more zero h = absurd (omega (arith, h))
  returned-more (suc zero) h = absurd (omega (arith, h))
  returned-more (suc (suc n)) h =
      let less : suc (suc n) - 1 ≡ suc n = omega arith in
      ap (λ k. lowered {W = W} {K = K} k code.Return text options st) less

-- ---- errors

above-below : (stack now : List Text) → Above stack now → Above (under 1 stack) now
above-below stack now h =
    let len : length (under 1 stack) ≡ length stack - 1 = omega (arith, length-take (length stack - 1) stack) in
    record {
      kept = ap (λ i. take i now) len ∙ sym (take-take (length stack - 1) (length stack) now (omega arith)) ∙ ap (take (length stack - 1)) h.kept;
      some = omega (arith, len, h.some);
    }

-- An error over texts is one over what is below the topmost of them.
pub raised_below : {T : Type 0} (P : T → List Text → Type 0) (stack now : List Text) (e : End) → KeepsStack {T = Unit {0}} stack (Err e) now → Leaves P (under 1 stack) (Err e) now
raised_below P stack now (end.Left l) h = above-below stack now h
raised_below P stack now end.Budget h = tt
raised_below P stack now (end.Exit n) h = tt
raised_below P stack now end.Device h = tt
raised_below P stack now end.Memory h = tt
