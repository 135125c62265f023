-- How the end of a body follows from the end of its script, and loops turn by turn.
use Rattle.std.proofs.Common.{◌≡◌, ◌<◌, ◌+◌, ◌-◌, ℕ, zero, suc, List, length, arith, refl, subst, sym, ap, ◌∙◌, Bool, true, false, if◌then◌else◌, Result, Ok, Err}
use Rattle.tclv_io.specs.World.{World}
use Rattle.tclv_model.specs.declared.outcomes.Code.TheVariants as code
use Rattle.tclv_engine.specs.declared.endings.Carried.{Carried}
use Rattle.tclv_engine.specs.declared.endings.Leaving.TheVariants.{Error, Other}
use Rattle.tclv_engine.specs.declared.endings.End.{End}
use Rattle.tclv_engine.specs.declared.endings.End.TheVariants as end
use Rattle.tclv_engine.specs.declared.loops.BodyEnd.{BodyEnd}
use Rattle.tclv_engine.specs.declared.loops.BodyEnd.TheVariants as body_end
use Rattle.tclv_engine.specs.declared.machine.Machine.{Machine}
use Rattle.tclv_engine.specs.State.{Text, State, state_of}
use Rattle.tclv_engine.specs.Results.{Ending, Left, Res, Outcome, done, bind, error_options, carried}
use Rattle.tclv_engine.specs.Loops.{Turn, Gave, Skipped, Broke, turn_ending, as_turn, TurnLeaves, body_end_of, cut_back, turns, loop, goes_on, more_after, without_result, HasBodyResult, between_ending, between_end_of, cut_between}
use Rattle.tclv_engine.specs.Answers.{Outer, Start, Ends, Cut, Says, Runs, AnswersOver, SameState, Over, Above, Leaves, KeepsStack, PushesOne, Caused, as_outcome, returned, last_of}
use Rattle.tclv_engine.proofs.Binds.{bind_ok, bind_stop, runs_as, answers_as}
use Rattle.tclv_engine.proofs.Leaves.{done_runs, same_state}
use Rattle.tclv_engine.proofs.StackLemmas.{over-popped}
use Rattle.tclv_engine.proofs.Walks.{Walk}

-- ---- bodies

-- what the body of a loop makes of its script
abbrev turned : {W : Type 0} → Res W Outcome → Res W Turn
turned m = record { ending = turn_ending m.ending; after = m.after; events = m.events }

turned-ends : {W : Type 0} → (m : Res W Outcome) (s : Start) (e : Ending Outcome) (f : Ending Turn) (mid new : (Machine W)) (w : World) (torn : ℕ) → SameState mid new →
    turn_ending e ≡ f → Ends m s e mid w torn → Ends (turned m) s f new w torn
turned-ends m s e f mid new w torn same is h = record {
  ending = ap turn_ending h.ending ∙ is;
  state = h.state ∙ sym (same_state mid new w same);
  out = h.out;
  whole = h.whole;
  counted = same.events ∙ h.counted;
}

turned-cut : {W : Type 0} → (m : Res W Outcome) (s : Start) (part : ℕ) (mid new : (Machine W)) (w : World) (torn : ℕ) → SameState mid new → Cut m s part mid w torn → Cut (turned m) s part new w torn
turned-cut m s part mid new w torn same h = record {
  first = h.first;
  rest = h.rest;
  split = h.split;
  out = h.out;
  within = h.within;
  part_is = h.part_is;
  counted = same.events ∙ h.counted;
}

turned-says : {W : Type 0} → (m : Res W Outcome) (s : Start) (ended : Result Carried End) (height : ℕ) (mid new : (Machine W)) (w : World) (torn : ℕ) → SameState mid new →
    new.values.store.stack ≡ cut_back ended height mid.values.store.stack → Says m as_outcome s ended mid w torn → Says (turned m) as_turn s (body_end_of ended) new w torn
turned-says m s (Ok u) height mid new w torn same stack h = record { value = Gave h.value.text; ends = turned-ends m s _ _ mid new w torn same refl h.ends; shown = ap last_of stack ∙ h.shown.0 }
turned-says m s (Err (end.Left (Error c))) height mid new w torn same stack h =
    turned-ends m s _ _ mid new w torn same (ap (λ x. Left code.Error (last_of x) (error_options c)) (sym stack)) h
turned-says m s (Err (end.Left (Other code.Break k))) height mid new w torn same stack h = record { value = Broke; ends = turned-ends m s _ _ mid new w torn same refl h; shown = tt }
turned-says m s (Err (end.Left (Other code.Continue k))) height mid new w torn same stack h = record { value = Skipped; ends = turned-ends m s _ _ mid new w torn same refl h; shown = tt }
turned-says m s (Err (end.Left (Other code.Ok k))) height mid new w torn same stack h =
    turned-ends m s _ _ mid new w torn same (ap (λ x. Left code.Ok (last_of x) (carried code.Ok k)) (sym stack)) h
turned-says m s (Err (end.Left (Other code.Error k))) height mid new w torn same stack h =
    turned-ends m s _ _ mid new w torn same (ap (λ x. Left code.Error (last_of x) (carried code.Error k)) (sym stack)) h
turned-says m s (Err (end.Left (Other code.Return k))) height mid new w torn same stack h =
    turned-ends m s _ _ mid new w torn same (ap (λ x. Left code.Return (last_of x) (carried code.Return k)) (sym stack)) h
turned-says m s (Err (end.Left (Other (code.Other n) k))) height mid new w torn same stack h =
    turned-ends m s _ _ mid new w torn same (ap (λ x. Left (code.Other n) (last_of x) (carried (code.Other n) k)) (sym stack)) h
turned-says m s (Err end.Budget) height mid new w torn same stack h = turned-ends m s _ _ mid new w torn same refl h
turned-says m s (Err (end.Exit n)) height mid new w torn same stack h = turned-ends m s _ _ mid new w torn same refl h
turned-says m s (Err end.Device) height mid new w torn same stack h = (h.0, turned-cut m s h.0 mid new w torn same h.1)
turned-says m s (Err end.Memory) height mid new w torn same stack h = turned-cut m s 0 mid new w torn same h

pub body_runs : {W : Type 0} → {m : Res W Outcome} {s : Start} {ended : Result Carried End} {r : Result BodyEnd End} {new : (Machine W)} {now : Outer} (height : ℕ) (mid : (Machine W)) →
    Runs m as_outcome s ended mid now → SameState mid new → r ≡ body_end_of ended → new.values.store.stack ≡ cut_back ended height mid.values.store.stack →
    Runs (turned m) as_turn s r new now
body_runs {m} {s} {ended} {r} {new} {now} height mid h same is stack =
    answers_as is (record { world = h.world; told = h.told; says = turned-says m s ended height mid new h.world now.torn same stack h.says })

above-as : (base mid new : List Text) → new ≡ mid → Above base mid → Above base new
above-as base mid new e h = subst (λ s. Above base s) (sym e) h

leaves-body : (base : List Text) (ended : Result Carried End) (mid new : List Text) → new ≡ cut_back ended (length base) mid → PushesOne base ended mid →
    Leaves (TurnLeaves base) base (body_end_of ended) new
leaves-body base (Ok u) mid new e h = subst (λ s. Over 1 base s) (sym e) h
leaves-body base (Err (end.Left (Error c))) mid new e h = above-as base mid new e h
leaves-body base (Err (end.Left (Other code.Break k))) mid new e h = e ∙ h.kept
leaves-body base (Err (end.Left (Other code.Continue k))) mid new e h = e ∙ h.kept
leaves-body base (Err (end.Left (Other code.Ok k))) mid new e h = above-as base mid new e h
leaves-body base (Err (end.Left (Other code.Error k))) mid new e h = above-as base mid new e h
leaves-body base (Err (end.Left (Other code.Return k))) mid new e h = above-as base mid new e h
leaves-body base (Err (end.Left (Other (code.Other n) k))) mid new e h = above-as base mid new e h
leaves-body base (Err end.Budget) mid new e h = tt
leaves-body base (Err (end.Exit n)) mid new e h = tt
leaves-body base (Err end.Device) mid new e h = tt
leaves-body base (Err end.Memory) mid new e h = tt

pub body_leaves : (base : List Text) (height : ℕ) (ended : Result Carried End) (r : Result BodyEnd End) (mid new : List Text) → height ≡ length base → r ≡ body_end_of ended →
    new ≡ cut_back ended height mid → PushesOne base ended mid → Leaves (TurnLeaves base) base r new
body_leaves base height ended r mid new tall is e h =
    subst (λ x. Leaves (TurnLeaves base) base x new) (sym is) (leaves-body base ended mid new (e ∙ ap (λ n. cut_back ended n mid) tall) h)

caused-body : (before now : ℕ) (ended : Result Carried End) → Caused before now ended → Caused before now (body_end_of ended)
caused-body before now (Ok u) h = h
caused-body before now (Err (end.Left (Error c))) h = h
caused-body before now (Err (end.Left (Other code.Break k))) h = h
caused-body before now (Err (end.Left (Other code.Continue k))) h = h
caused-body before now (Err (end.Left (Other code.Ok k))) h = h
caused-body before now (Err (end.Left (Other code.Error k))) h = h
caused-body before now (Err (end.Left (Other code.Return k))) h = h
caused-body before now (Err (end.Left (Other (code.Other n) k))) h = h
caused-body before now (Err end.Budget) h = h
caused-body before now (Err (end.Exit n)) h = h
caused-body before now (Err end.Device) h = h
caused-body before now (Err end.Memory) h = h

pub body_caused : (before now : ℕ) (ended : Result Carried End) (r : Result BodyEnd End) → r ≡ body_end_of ended → Caused before now ended → Caused before now r
body_caused before now ended r is h = subst (λ x. Caused before now x) (sym is) (caused-body before now ended h)

-- ---- scripts between turns

abbrev between-turned : {W : Type 0} → Res W Outcome → Res W Bool
between-turned m = record { ending = between_ending m.ending; after = m.after; events = m.events }

between-ends : {W : Type 0} → (m : Res W Outcome) (s : Start) (e : Ending Outcome) (f : Ending Bool) (mid new : (Machine W)) (w : World) (torn : ℕ) → SameState mid new →
    between_ending e ≡ f → Ends m s e mid w torn → Ends (between-turned m) s f new w torn
between-ends m s e f mid new w torn same is h = record {
  ending = ap between_ending h.ending ∙ is;
  state = h.state ∙ sym (same_state mid new w same);
  out = h.out;
  whole = h.whole;
  counted = same.events ∙ h.counted;
}

between-cut : {W : Type 0} → (m : Res W Outcome) (s : Start) (part : ℕ) (mid new : (Machine W)) (w : World) (torn : ℕ) → SameState mid new → Cut m s part mid w torn → Cut (between-turned m) s part new w torn
between-cut m s part mid new w torn same h = record {
  first = h.first;
  rest = h.rest;
  split = h.split;
  out = h.out;
  within = h.within;
  part_is = h.part_is;
  counted = same.events ∙ h.counted;
}

between-says : {W : Type 0} → (m : Res W Outcome) (s : Start) (ended : Result Carried End) (height : ℕ) (mid new : (Machine W)) (w : World) (torn : ℕ) → SameState mid new →
    new.values.store.stack ≡ cut_between ended height mid.values.store.stack → Says m as_outcome s ended mid w torn → Says (between-turned m) returned s (between_end_of ended) new w torn
between-says m s (Ok u) height mid new w torn same stack h = record { value = true; ends = between-ends m s _ _ mid new w torn same refl h.ends; shown = refl }
between-says m s (Err (end.Left (Error c))) height mid new w torn same stack h =
    between-ends m s _ _ mid new w torn same (ap (λ x. Left code.Error (last_of x) (error_options c)) (sym stack)) h
between-says m s (Err (end.Left (Other code.Break k))) height mid new w torn same stack h = record { value = false; ends = between-ends m s _ _ mid new w torn same refl h; shown = refl }
between-says m s (Err (end.Left (Other code.Ok k))) height mid new w torn same stack h =
    between-ends m s _ _ mid new w torn same (ap (λ x. Left code.Ok (last_of x) (carried code.Ok k)) (sym stack)) h
between-says m s (Err (end.Left (Other code.Error k))) height mid new w torn same stack h =
    between-ends m s _ _ mid new w torn same (ap (λ x. Left code.Error (last_of x) (carried code.Error k)) (sym stack)) h
between-says m s (Err (end.Left (Other code.Return k))) height mid new w torn same stack h =
    between-ends m s _ _ mid new w torn same (ap (λ x. Left code.Return (last_of x) (carried code.Return k)) (sym stack)) h
between-says m s (Err (end.Left (Other code.Continue k))) height mid new w torn same stack h =
    between-ends m s _ _ mid new w torn same (ap (λ x. Left code.Continue (last_of x) (carried code.Continue k)) (sym stack)) h
between-says m s (Err (end.Left (Other (code.Other n) k))) height mid new w torn same stack h =
    between-ends m s _ _ mid new w torn same (ap (λ x. Left (code.Other n) (last_of x) (carried (code.Other n) k)) (sym stack)) h
between-says m s (Err end.Budget) height mid new w torn same stack h = between-ends m s _ _ mid new w torn same refl h
between-says m s (Err (end.Exit n)) height mid new w torn same stack h = between-ends m s _ _ mid new w torn same refl h
between-says m s (Err end.Device) height mid new w torn same stack h = (h.0, between-cut m s h.0 mid new w torn same h.1)
between-says m s (Err end.Memory) height mid new w torn same stack h = between-cut m s 0 mid new w torn same h

pub between_runs : {W : Type 0} → {m : Res W Outcome} {s : Start} {ended : Result Carried End} {r : Result Bool End} {new : (Machine W)} {now : Outer} (height : ℕ) (mid : (Machine W)) →
    Runs m as_outcome s ended mid now → SameState mid new → r ≡ between_end_of ended → new.values.store.stack ≡ cut_between ended height mid.values.store.stack →
    Runs (between-turned m) returned s r new now
between_runs {m} {s} {ended} {r} {new} {now} height mid h same is stack =
    answers_as is (record { world = h.world; told = h.told; says = between-says m s ended height mid new h.world now.torn same stack h.says })

leaves-between : (base : List Text) (ended : Result Carried End) (mid new : List Text) → new ≡ cut_between ended (length base) mid → PushesOne base ended mid →
    KeepsStack base (between_end_of ended) new
leaves-between base (Ok u) mid new e h = e ∙ h.kept
leaves-between base (Err (end.Left (Error c))) mid new e h = above-as base mid new e h
leaves-between base (Err (end.Left (Other code.Break k))) mid new e h = e ∙ h.kept
leaves-between base (Err (end.Left (Other code.Ok k))) mid new e h = above-as base mid new e h
leaves-between base (Err (end.Left (Other code.Error k))) mid new e h = above-as base mid new e h
leaves-between base (Err (end.Left (Other code.Return k))) mid new e h = above-as base mid new e h
leaves-between base (Err (end.Left (Other code.Continue k))) mid new e h = above-as base mid new e h
leaves-between base (Err (end.Left (Other (code.Other n) k))) mid new e h = above-as base mid new e h
leaves-between base (Err end.Budget) mid new e h = tt
leaves-between base (Err (end.Exit n)) mid new e h = tt
leaves-between base (Err end.Device) mid new e h = tt
leaves-between base (Err end.Memory) mid new e h = tt

pub between_leaves : (base : List Text) (height : ℕ) (ended : Result Carried End) (r : Result Bool End) (mid new : List Text) → height ≡ length base → r ≡ between_end_of ended →
    new ≡ cut_between ended height mid → PushesOne base ended mid → KeepsStack base r new
between_leaves base height ended r mid new tall is e h =
    subst (λ x. KeepsStack base x new) (sym is) (leaves-between base ended mid new (e ∙ ap (λ n. cut_between ended n mid) tall) h)

caused-between : (before now : ℕ) (ended : Result Carried End) → Caused before now ended → Caused before now (between_end_of ended)
caused-between before now (Ok u) h = h
caused-between before now (Err (end.Left (Error c))) h = h
caused-between before now (Err (end.Left (Other code.Break k))) h = h
caused-between before now (Err (end.Left (Other code.Ok k))) h = h
caused-between before now (Err (end.Left (Other code.Error k))) h = h
caused-between before now (Err (end.Left (Other code.Return k))) h = h
caused-between before now (Err (end.Left (Other code.Continue k))) h = h
caused-between before now (Err (end.Left (Other (code.Other n) k))) h = h
caused-between before now (Err end.Budget) h = h
caused-between before now (Err (end.Exit n)) h = h
caused-between before now (Err end.Device) h = h
caused-between before now (Err end.Memory) h = h

pub between_caused : (before now : ℕ) (ended : Result Carried End) (r : Result Bool End) → r ≡ between_end_of ended → Caused before now ended → Caused before now r
between_caused before now ended r is h = subst (λ x. Caused before now x) (sym is) (caused-between before now ended h)

-- ---- behind a body

pub more_is : (t : Turn) (e : BodyEnd) (stack : List Text) → as_turn t e stack → more_after e ≡ goes_on t
more_is (Gave text) body_end.Gave stack h = refl
more_is (Gave text) body_end.Skipped stack h = absurd h
more_is (Gave text) body_end.Broke stack h = absurd h
more_is Skipped body_end.Gave stack h = absurd h
more_is Skipped body_end.Skipped stack h = refl
more_is Skipped body_end.Broke stack h = absurd h
more_is Broke body_end.Gave stack h = absurd h
more_is Broke body_end.Skipped stack h = absurd h
more_is Broke body_end.Broke stack h = refl

pub result_there : (base : List Text) (e : BodyEnd) (stack : List Text) → TurnLeaves base e stack → HasBodyResult e stack
result_there base body_end.Gave stack h = omega (arith, h.count_is)
result_there base body_end.Skipped stack h = tt
result_there base body_end.Broke stack h = tt

pub result_gone : (base : List Text) (e : BodyEnd) (stack : List Text) → TurnLeaves base e stack → without_result e stack ≡ base
result_gone base body_end.Gave stack h = over-popped base stack h
result_gone base body_end.Skipped stack h = h
result_gone base body_end.Broke stack h = h

-- ---- loops

turns-step : {W : Type 0} → (turn : (State W) → Res W Bool) (fuel : ℕ) (st : (State W)) → 0 < fuel → bind (turn st) (λ more s1. if more then turns (fuel - 1) turn s1 else done tt s1) ≡ turns fuel turn st
unfolding turns
turns-step turn zero st h = absurd (omega (arith, h))
turns-step turn (suc n) st h =
    let one : suc n - 1 ≡ n = omega arith in
    ap (λ k. bind (turn st) (λ more s1. if more then turns k turn s1 else done tt s1)) one

module _ {W : Type 0} (turn : (State W) → Res W Bool) (old : (Machine W)) (before : Outer) (faults : ℕ) where
  -- So many turns may come yet, which is more than the units left; and what the loop keeps.
  pub record Turning (now : (Machine _)) (mid : Outer) (count : ℕ) (Fits : Type 0) : Type 0 where
    pub fuel : ℕ
    pub enough : now.units < fuel
    pub walk : Walk {T = Unit {0}} returned old before faults now mid count (now.values.store.stack ≡ old.values.store.stack) Fits (λ st. loop turn st) (λ st. turns fuel turn st)

  pub starts : {Fits : Type 0} → Fits → Turning old before faults Fits
  starts fits = record {
    fuel = old.units + 1;
    enough = omega arith;
    walk = record { quiet = refl; units_left = omega arith; shape = refl; fits = fits; goes = λ w told r after last k. k w told };
  }

  -- another turn
  pub goes_again : {now new : (Machine W)} {mid last : Outer} {count next : ℕ} {Before Fits : Type 0} (more : Bool) → Turning now mid count Before →
      AnswersOver turn returned now mid (Ok more) new last → more ≡ true → new.units < now.units →
      new.values.store.stack ≡ now.values.store.stack → next ≡ count → Fits → Turning new last next Fits
  goes_again {now} {new} {mid} {last} more t answer follows fewer stack calm fits = record {
    fuel = t.fuel - 1;
    enough = omega (arith, t.enough, fewer);
    walk = record {
      quiet = calm ∙ t.walk.quiet;
      units_left = omega (arith, t.walk.units_left, fewer);
      shape = stack ∙ t.walk.shape;
      fits = fits;
      goes = λ w told r after end k.
          t.walk.goes w told r after end
          (λ v e. runs_as (turns-step turn t.fuel (state_of now v) (omega (arith, t.enough)))
          (bind_ok _ (answer v e)
          (λ b v2 e2 shown. runs_as (ap (λ x. if x then turns (t.fuel - 1) turn (state_of new v2) else done tt (state_of new v2)) (sym follows ∙ shown)) (k v2 e2))));
    };
  }

  -- the last turn
  pub ends_there : {now new : (Machine W)} {mid last : Outer} {count : ℕ} {Fits : Type 0} (more : Bool) → Turning now mid count Fits →
      AnswersOver turn returned now mid (Ok more) new last → more ≡ false →
      AnswersOver (loop turn) returned old before (Ok tt) new last
  ends_there {now} {new} {mid} {last} more t answer last_one w told =
      t.walk.goes w told (Ok tt) new last
      (λ v e. runs_as (turns-step turn t.fuel (state_of now v) (omega (arith, t.enough)))
      (bind_ok _ (answer v e)
      (λ b v2 e2 shown. runs_as (ap (λ x. if x then turns (t.fuel - 1) turn (state_of new v2) else done tt (state_of new v2)) (sym last_one ∙ shown)) (done_runs e2 refl refl))))

  -- a turn that isn't ok
  pub stops_there : {now new : (Machine W)} {mid last : Outer} {count : ℕ} {Fits : Type 0} {e : End} → Turning now mid count Fits →
      AnswersOver turn returned now mid (Err e) new last →
      AnswersOver {T = Unit {0}} (loop turn) returned old before (Err e) new last
  stops_there {now} {new} {mid} {last} {e = e} t answer w told =
      t.walk.goes w told (Err e) new last
      (λ v f. runs_as (turns-step turn t.fuel (state_of now v) (omega (arith, t.enough)))
      (bind_stop _ (answer v f)))
