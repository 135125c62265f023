-- Turns over the values of lists, one after another, and their results.
use Rattle.std.proofs.Common.{◌≡◌, ◌≤◌, ◌<◌, ◌+◌, ◌-◌, ℕ, zero, suc, List, [], ◌∷◌, ◌++◌, length, length-append, arith, refl, subst, sym, ap, ◌∙◌, Bool, true, false, if◌then◌else◌, Result, Ok, Err}
use Rattle.std.proofs.lemmas.List.{append_assoc, append-nil}
use Rattle.std.proofs.lemmas.Bool.{true≢false, false≢true}
use Rattle.std.proofs.Math.Seq.{take-append_seam}
use Rattle.tclv_text.specs.Quotes.{list_text}
use Rattle.tclv_value.specs.Stacks.{top, under}
use Rattle.tclv_parse.specs.declared.tree.Script.{Script}
use Rattle.tclv_engine.specs.declared.loops.BodyEnd.{BodyEnd}
use Rattle.tclv_engine.specs.declared.loops.BodyEnd.TheVariants as body_end
use Rattle.tclv_engine.specs.declared.endings.End.{End}
use Rattle.tclv_engine.specs.declared.endings.End.TheVariants as end
use Rattle.tclv_engine.specs.declared.machine.Machine.{Machine}
use Rattle.tclv_engine.specs.State.{Text, State, state_of}
use Rattle.tclv_engine.specs.Results.{Res, done, bind}
use Rattle.tclv_engine.specs.Words.{Evaluator}
use Rattle.tclv_engine.specs.Loops.{Turn, Gave, Skipped, Broke, as_turn, TurnLeaves, more_after, without_result}
use Rattle.tclv_engine.specs.EachLoops.{Group, turn_count, each_turn, behind, each_turns, result_of}
use Rattle.tclv_engine.specs.EachSteps.{kept}
use Rattle.tclv_engine.specs.Answers.{Outer, AnswersOver, SameState, Leaves, PushesWords, Keeps, last_of}
use Rattle.tclv_engine.proofs.Binds.{bind_ok, bind_stop, runs_as}
use Rattle.tclv_engine.proofs.Leaves.{done_runs, value_runs, from_same}
use Rattle.tclv_engine.proofs.StackLemmas.{over-one, last-pushed, keeps_all, top-stacked, take-under}
use Rattle.tclv_engine.proofs.LoopLemmas.{result_gone}
use Rattle.tclv_engine.proofs.Walks.{Walk}

-- ---- behind a turn

-- the results so far, with that of a body
abbrev pub results_behind : BodyEnd → List Text → List Text → List Text
results_behind body_end.Gave stack results = results ++ last_of stack ∷ []
results_behind e stack results = results

more-is : {W : Type 0} → (more : List Text → (State W) → Res W (List Text)) (t : Turn) (e : BodyEnd) (stack results : List Text) (st : (State W)) → as_turn t e stack → more_after e ≡ true →
    more (results_behind e stack results) st ≡ behind t more results st
more-is more (Gave text) body_end.Gave stack results st h g = ap (λ x. more (results ++ x ∷ []) st) h
more-is more (Gave text) body_end.Skipped stack results st h g = absurd h
more-is more (Gave text) body_end.Broke stack results st h g = absurd h
more-is more Skipped body_end.Gave stack results st h g = absurd h
more-is more Skipped body_end.Skipped stack results st h g = refl
more-is more Skipped body_end.Broke stack results st h g = absurd h
more-is more Broke body_end.Gave stack results st h g = absurd h
more-is more Broke body_end.Skipped stack results st h g = absurd h
more-is more Broke body_end.Broke stack results st h g = absurd (false≢true g)

last-is : {W : Type 0} → (more : List Text → (State W) → Res W (List Text)) (t : Turn) (e : BodyEnd) (stack results : List Text) (st : (State W)) → as_turn t e stack → more_after e ≡ false →
    done (results_behind e stack results) st ≡ behind t more results st
last-is more (Gave text) body_end.Gave stack results st h g = absurd (true≢false g)
last-is more (Gave text) body_end.Skipped stack results st h g = absurd h
last-is more (Gave text) body_end.Broke stack results st h g = absurd h
last-is more Skipped body_end.Gave stack results st h g = absurd h
last-is more Skipped body_end.Skipped stack results st h g = absurd (true≢false g)
last-is more Skipped body_end.Broke stack results st h g = absurd h
last-is more Broke body_end.Gave stack results st h g = absurd h
last-is more Broke body_end.Skipped stack results st h g = absurd h
last-is more Broke body_end.Broke stack results st h g = refl

-- the stack with the results that are kept
abbrev pub with_results : Bool → List Text → List Text → List Text
with_results keep base results = if keep then base ++ results else base

none-yet : (keep : Bool) (base : List Text) → base ≡ with_results keep base []
none-yet true base = sym (append-nil base)
none-yet false base = refl

-- a body's end over the results so far
one-more : (keep : Bool) (e : BodyEnd) (base results now mid new : List Text) → now ≡ with_results keep base results → TurnLeaves now e mid →
    new ≡ (if keep then mid else without_result e mid) → new ≡ with_results keep base (results_behind e mid results)
one-more true body_end.Gave base results now mid new h l e =
    e ∙ over-one now mid (last_of mid) l refl ∙ ap (λ b. b ++ last_of mid ∷ []) h ∙ append_assoc base results (last_of mid ∷ [])
one-more true body_end.Skipped base results now mid new h l e = e ∙ l ∙ h
one-more true body_end.Broke base results now mid new h l e = e ∙ l ∙ h
one-more false x base results now mid new h l e = e ∙ result_gone now x mid l ∙ h

pub keeps_results : (keep : Bool) (base results stack : List Text) → stack ≡ with_results keep base results → Keeps base stack
keeps_results true base results stack h =
    let P : List Text → Type 0 = λ s. Keeps base s in
    subst P (sym h) (record { kept = take-append_seam base results; some = omega (arith, length-append base results) })
keeps_results false base results stack h = let P : List Text → Type 0 = λ s. Keeps base s in subst P (sym h) (keeps_all base)

-- a turn that isn't ok, over results
turn-stops : (base now new : List Text) (e : End) → Keeps base now → Leaves (TurnLeaves now) now (Err e) new → PushesWords {T = Unit {0}} base (Err e) new
turn-stops base now new (end.Left l) k h = record { kept = take-under base now new k.some h.kept k.kept; some = omega (arith, k.some, h.some) }
turn-stops base now new end.Budget k h = tt
turn-stops base now new (end.Exit n) k h = tt
turn-stops base now new end.Device k h = tt
turn-stops base now new end.Memory k h = tt

pub turn_stops : {r : Result (Unit {0}) End} {e : End} (base now new : List Text) → r ≡ Err e → Keeps base now → Leaves (TurnLeaves now) now (Err e) new → PushesWords base r new
turn_stops {r} {e} base now new is k h = subst (λ x. PushesWords base x new) (sym is) (turn-stops base now new e k h)

-- ---- turns

turns-more : {W : Type 0} → (turn : ℕ → (State W) → Res W Turn) (n k : ℕ) (results : List Text) (st : (State W)) → 0 < n →
    bind (turn k st) (λ t s1. behind t (each_turns turn (n - 1) (k + 1)) results s1) ≡ each_turns turn n k results st
unfolding each_turns
turns-more turn zero k results st h = absurd (omega (arith, h))
turns-more turn (suc n) k results st h =
    let one : suc n - 1 ≡ n = omega arith in
    ap (λ m. bind (turn k st) (λ t s1. behind t (each_turns turn m (k + 1)) results s1)) one

turns-none : {W : Type 0} → (turn : ℕ → (State W) → Res W Turn) (n k : ℕ) (results : List Text) (st : (State W)) → n ≡ 0 → done results st ≡ each_turns turn n k results st
unfolding each_turns
turns-none turn n k results st e = sym (ap (λ m. each_turns turn m k results st) e)

module _ {W : Type 0} (turn : ℕ → (State W) → Res W Turn) (keep : Bool) (count : ℕ) (old : (Machine W)) (before : Outer) (faults : ℕ) where
  -- The turns that are left, the results of those that were, and what the loop keeps.
  pub record Eaching (k : ℕ) (now : (Machine _)) (mid : Outer) (counted : ℕ) (Fits : Type 0) : Type 0 where
    pub left : ℕ
    pub left_is : left + k ≡ count
    pub results : List Text
    pub walk : Walk {T = Unit {0}} (kept keep old.values.store.stack) old before faults now mid counted (now.values.store.stack ≡ with_results keep old.values.store.stack results) Fits
        (λ st. each_turns turn count 0 [] st) (λ st. each_turns turn left k results st)

  pub each_starts : {Fits : Type 0} → Fits → Eaching 0 old before faults Fits
  each_starts fits = record {
    left = count;
    left_is = omega arith;
    results = [];
    walk = record { quiet = refl; units_left = omega arith; shape = none-yet keep old.values.store.stack; fits = fits; goes = λ w told r after last k. k w told };
  }

  -- another turn
  pub each_goes : {now mid new : (Machine W)} {here last : Outer} {k counted next : ℕ} {Before Fits : Type 0} (e : BodyEnd) → Eaching k now here counted Before → k < count →
      AnswersOver (turn k) as_turn now here (Ok e) mid last → mid.units ≤ now.units → TurnLeaves now.values.store.stack e mid.values.store.stack →
      SameState mid new → new.values.store.stack ≡ (if keep then mid.values.store.stack else without_result e mid.values.store.stack) → more_after e ≡ true → next ≡ counted → Fits →
      Eaching (k + 1) new last next Fits
  each_goes {now} {mid} {new} {here} {last} {k} e t some answer fewer leaves same stack follows calm fits =
      let results = results_behind e mid.values.store.stack t.results in
      record {
        left = t.left - 1;
        left_is = omega (arith, t.left_is, some);
        results = results;
        walk = record {
          quiet = calm ∙ t.walk.quiet;
          units_left = omega (arith, t.walk.units_left, fewer, same.units);
          shape = one-more keep e old.values.store.stack t.results now.values.store.stack mid.values.store.stack new.values.store.stack t.walk.shape leaves stack;
          fits = fits;
          goes = λ w told r after end go.
              t.walk.goes w told r after end
              (λ v f. runs_as (turns-more turn t.left k t.results (state_of now v) (omega (arith, t.left_is, some)))
              (bind_ok _ (answer v f)
              (λ x v2 f2 shown. runs_as (more-is (each_turns turn (t.left - 1) (k + 1)) x e mid.values.store.stack t.results (state_of mid v2) shown follows)
              (from_same mid new (λ st. each_turns turn (t.left - 1) (k + 1) results st) same (go v2 f2)))));
        };
      }

  -- a turn that breaks the loop
  pub each_breaks : {now mid new : (Machine W)} {here last : Outer} {k counted : ℕ} {Fits : Type 0} (e : BodyEnd) → Eaching k now here counted Fits → k < count →
      AnswersOver (turn k) as_turn now here (Ok e) mid last → TurnLeaves now.values.store.stack e mid.values.store.stack →
      SameState mid new → new.values.store.stack ≡ (if keep then mid.values.store.stack else without_result e mid.values.store.stack) → more_after e ≡ false →
      AnswersOver (each_turns turn count 0 []) (kept keep old.values.store.stack) old before (Ok tt) new last
  each_breaks {now} {mid} {new} {here} {last} {k} e t some answer leaves same stack ends w told =
      t.walk.goes w told (Ok tt) new last
      (λ v f. runs_as (turns-more turn t.left k t.results (state_of now v) (omega (arith, t.left_is, some)))
      (bind_ok _ (answer v f)
      (λ x v2 f2 shown. runs_as (last-is (each_turns turn (t.left - 1) (k + 1)) x e mid.values.store.stack t.results (state_of mid v2) shown ends)
      (value_runs mid f2 same (one-more keep e old.values.store.stack t.results now.values.store.stack mid.values.store.stack new.values.store.stack t.walk.shape leaves stack)))))

  -- no turn is left
  pub each_ends : {now : (Machine W)} {here : Outer} {k counted : ℕ} {Fits : Type 0} → Eaching k now here counted Fits → count ≤ k →
      AnswersOver (each_turns turn count 0 []) (kept keep old.values.store.stack) old before (Ok tt) now here
  each_ends {now} {here} {k} t all w told =
      t.walk.goes w told (Ok tt) now here
      (λ v f. runs_as (turns-none turn t.left k t.results (state_of now v) (omega (arith, t.left_is, all))) (done_runs f refl t.walk.shape))

  -- a turn that isn't ok
  pub each_stops : {now new : (Machine W)} {here last : Outer} {k counted : ℕ} {Fits : Type 0} {e : End} → Eaching k now here counted Fits → k < count →
      AnswersOver {T = BodyEnd} (turn k) as_turn now here (Err e) new last →
      AnswersOver {T = Unit {0}} (each_turns turn count 0 []) (kept keep old.values.store.stack) old before (Err e) new last
  each_stops {now} {new} {here} {last} {k} {e = e} t some answer w told =
      t.walk.goes w told (Err e) new last
      (λ v f. runs_as (turns-more turn t.left k t.results (state_of now v) (omega (arith, t.left_is, some)))
      (bind_stop _ (answer v f)))

-- ---- the result

results-top : (keep : Bool) (base results now : List Text) (n : ℕ) → now ≡ with_results keep base results → n ≡ length now - length base → list_text (top n now) ≡ result_of keep results
results-top true base results now n h e = ap list_text (top-stacked base results now n h e)
results-top false base results now n h e = ap list_text (top-stacked base [] now n (h ∙ sym (append-nil base)) e)

pub result_is : (keep : Bool) (base results now new : List Text) (n : ℕ) → now ≡ with_results keep base results → n ≡ length now - length base →
    new ≡ under n now ++ list_text (top n now) ∷ [] → last_of new ≡ result_of keep results
result_is keep base results now new n h e f = last-pushed (under n now) new (list_text (top n now)) f ∙ results-top keep base results now n h e

-- ---- all turns

-- the turns of groups, by their number and the script of the body
pub turns_known : {W : Type 0} → (ev : (Evaluator W)) (s script : Script) (gs : List Group) (n : ℕ) (st : (State W)) → s ≡ script → n ≡ turn_count gs →
    each_turns (each_turn ev s gs) n 0 [] st ≡ each_turns (each_turn ev script gs) (turn_count gs) 0 [] st
turns_known ev s script gs n st e k = ap (λ m. each_turns (each_turn ev s gs) m 0 [] st) k ∙ ap (λ x. each_turns (each_turn ev x gs) (turn_count gs) 0 [] st) e
