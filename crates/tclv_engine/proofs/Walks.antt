-- What a loop over commands, words or parts keeps: whatever the rest answers, the whole answers.
use Rattle.std.proofs.Common.{◌≡◌, ◌≤◌, ◌<◌, ◌+◌, ℕ, List, ◌∷◌, length, drop, get_or, arith, refl, subst, sym, ap, ◌∙◌, Result}
use Rattle.std.proofs.lemmas.List.{drop_more}
use Rattle.tclv_io.specs.World.{World}
use Rattle.tclv_engine.specs.declared.endings.End.{End}
use Rattle.tclv_engine.specs.declared.machine.Machine.{Machine}
use Rattle.tclv_engine.specs.State.{Text, State, state_of}
use Rattle.tclv_engine.specs.Results.{Res}
use Rattle.tclv_engine.specs.Answers.{Outer, start, Runs, AtWorld}

-- From `old` on the whole is said, from `now` on the rest. No unit came back, no fault was counted, the stack has this shape, and machine and world fit.
pub record Walk {W A T : Type 0} (shows : A → T → List Text → Type 0) (old : (Machine W)) (before : Outer) (faults : ℕ) (now : (Machine W)) (mid : Outer) (count : ℕ)
    (Shape Fits : Type 0) (whole rest : (State W) → Res W A) : Type 0 where
  pub quiet : count ≡ faults
  pub units_left : now.units ≤ old.units
  pub shape : Shape
  pub fits : Fits
  pub goes : AtWorld before (λ w. (r : Result T End) (after : (Machine W)) (last : Outer) →
      AtWorld mid (λ v. Runs (rest (state_of now v)) shows (start now v mid.torn) r after last) → Runs (whole (state_of old w)) shows (start old w before.torn) r after last)

-- at the start
pub begins : {W A T : Type 0} (shows : A → T → List Text → Type 0) (old now : (Machine W)) (before : Outer) (faults : ℕ) (Shape Fits : Type 0) (whole rest : (State W) → Res W A) → Shape → Fits →
    now.units ≡ old.units → now.writes ≡ old.writes → ((w : World) → rest (state_of now w) ≡ whole (state_of old w)) →
    Walk {T = T} shows old before faults now before faults Shape Fits whole rest
begins {T = T} shows old now before faults Shape Fits whole rest shape fits u n e = record {
  quiet = refl;
  units_left = omega (arith, u);
  shape = shape;
  fits = fits;
  goes = λ w told r after last k.
      let P : Res _ _ → Type 0 = λ m. Runs {T = T} m shows (record { world = w; torn = before.torn; events = old.writes }) r after last in
      let Q : ℕ → Type 0 = λ x. Runs {T = T} (rest (state_of now w)) shows (record { world = w; torn = before.torn; events = x }) r after last in
      subst P (e w) (subst Q n (k w told));
}

pub drops_one : {X : Type 0} (xs : List X) (i : ℕ) (x : X) → i < length xs → get_or xs i x ≡ x → x ∷ drop (i + 1) xs ≡ drop i xs
drops_one xs i x h e = sym (drop_more xs i x h ∙ ap (λ y. y ∷ drop (i + 1) xs) e)
