-- What an interpreter answers, from how its script ended.
use Rattle.std.proofs.Common.{ap, ◌≡◌, ℕ, List, [], Result, Ok, Err, sym, ◌∙◌, refl, subst, Some, arith}
use Rattle.std.proofs.lemmas.List.{append-nil}
use Rattle.tclv_io.specs.World.{World}
use Rattle.tclv_model.specs.declared.outcomes.Code.{Code}
use Rattle.tclv_model.specs.declared.outcomes.Code.TheVariants as code
use Rattle.tclv_model.specs.declared.outcomes.Pair.{Pair}
use Rattle.tclv_engine.specs.declared.endings.End.{End}
use Rattle.tclv_engine.specs.declared.endings.End.TheVariants as end
use Rattle.tclv_engine.specs.declared.machine.Machine.{Machine}
use Rattle.tclv_interp.specs.declared.interpreters.Stop.{Stop}
use Rattle.tclv_interp.specs.declared.interpreters.Stop.TheVariants as stop
use Rattle.tclv_engine.specs.State.{Text, state_of}
use Rattle.tclv_engine.specs.Results.{Ending, Done, Left, Outcome, carried}
use Rattle.tclv_interp.specs.declared.builtins.Tables.{Tables}
use Rattle.tclv_interp.specs.Commands.{Res}
use Rattle.tclv_engine.specs.declared.endings.Carried.{Carried}
use Rattle.tclv_engine.specs.declared.endings.Leaving.{Leaving}
use Rattle.std.specs.Prelude.{IfOk, OnOk, IfErr}
use Rattle.tclv_engine.proofs.EventLemmas.{no_part}
use Rattle.tclv_engine.specs.Answers.{Outer, Start, Ends, Cut, Gives, Runs, SameState, as_outcome, code_of, options_of, last_of, Over, Above, PushesOne, Caused}
use Rattle.tclv_interp.specs.Interpreters.{EndsWith, Happened, CutShort, Says, Evaluates, Shows, at_global, back_at_global}
use Rattle.tclv_engine.proofs.Leaves.{same_state}

-- all of it happened
happened : {m : Res Outcome} {w : World} {torn events : ℕ} {e : Ending Outcome} {v : World} {now : ℕ} (mid after : Machine Tables) → SameState mid after →
    Ends m (record { world = w; torn = torn; events = events }) e mid v now → Happened m w torn events after v now
happened {v = v} mid after same h = record {
  state = h.state ∙ sym (same_state mid after v same);
  out = h.out;
  whole = h.whole;
  counted = same.events ∙ h.counted;
}

-- all of it happened before memory ran out
all-cut : {m : Res Outcome} {w : World} {torn events : ℕ} {e : Ending Outcome} {v : World} {now : ℕ} (mid after : Machine Tables) → SameState mid after →
    Ends m (record { world = w; torn = torn; events = events }) e mid v now → CutShort m w torn events 0 after v now
all-cut {m = m} mid after same h = record {
  first = m.events;
  rest = [];
  split = sym (append-nil m.events);
  out = h.out;
  within = omega arith;
  part_is = omega (arith, h.whole);
  counted = same.events ∙ h.counted;
}

-- a part of it happened
cut-short : {m : Res Outcome} {w : World} {torn events : ℕ} {v : World} {now : ℕ} (part : ℕ) (mid after : Machine Tables) → SameState mid after →
    Cut m (record { world = w; torn = torn; events = events }) part mid v now → CutShort m w torn events part after v now
cut-short part mid after same h = record {
  first = h.first;
  rest = h.rest;
  split = h.split;
  out = h.out;
  within = h.within;
  part_is = h.part_is;
  counted = same.events ∙ h.counted;
}

-- the ending of a computation that ended so
ends-with : (e e' : Ending Outcome) (c : Code) (text : Text) (options : List Pair) → e ≡ e' → EndsWith e' c text options → EndsWith e c text options
ends-with e e' c text options h k = subst (λ x. EndsWith x c text options) (sym h) k

module _ (m : Res Outcome) (w : World) (torn events : ℕ) (mid after : Machine Tables) (same : SameState mid after) (text : Text) (options : List Pair) (v : World) (now : ℕ) where
  at-memory : (s : Stop) → s ≡ stop.Memory → CutShort m w torn events 0 after v now → Says m w torn events (Err s) text options after v now
  at-memory s h k = subst (λ x. Says m w torn events (Err x) text options after v now) (sym h) k

  at-answer : (r q : Result Code Stop) → r ≡ q → Says m w torn events q text options after v now → Says m w torn events r text options after v now
  at-answer r q h k = subst (λ x. Says m w torn events x text options after v now) (sym h) k

  says : (r : Result Carried End) (q : Result Code Stop) → Shows r mid.values.store.stack q text options →
      Rattle.tclv_engine.specs.Answers.Says m as_outcome (record { world = w; torn = torn; events = events }) r mid v now → Says m w torn events q text options after v now
  says (Ok t) (Ok c) h k =
      (ends-with m.ending (Done k.value) c text options k.ends.ending (h.0, h.1 ∙ k.shown.0, h.2 ∙ sym k.shown.1), happened mid after same k.ends)
  says (Ok t) (Err s) h k = at-memory s h (all-cut mid after same k.ends)
  says (Err (end.Left l)) (Ok c) h k = (ends-with m.ending (Left (code_of l) (last_of mid.values.store.stack) (options_of l)) c text options k.ending h, happened mid after same k)
  says (Err (end.Left l)) (Err s) h k = at-memory s h (all-cut mid after same k)
  says (Err end.Budget) q h k = at-answer q (Err stop.Budget) h (k.ending, happened mid after same k)
  says (Err (end.Exit n)) q h k = at-answer q (Err (stop.Exit n)) h (k.ending, happened mid after same k)
  says (Err end.Device) q h k = at-answer q (Err stop.Device) h (k.0, cut-short k.0 mid after same k.1)
  says (Err end.Memory) q h k = at-answer q (Err stop.Memory) h (cut-short 0 mid after same k)

-- An interpreter answers as the computation that its script ran.
pub evaluates : {m : Res Outcome} {w : World} {torn events : ℕ} {r : Result Carried End} {q : Result Code Stop} {text : Text} {options : List Pair} {now : Outer} (mid after : Machine Tables) → SameState mid after →
    Shows r mid.values.store.stack q text options → Runs m as_outcome (record { world = w; torn = torn; events = events }) r mid now → Evaluates m w torn events q text options after now
evaluates {m} {w} {torn} {events} {r} {q} {text} {options} {now} mid after same shows h =
    record { world = h.world; told = h.told; says = says m w torn events mid after same text options h.world now.torn r q shows h.says }

-- ---- the end of the frames that were left open

module _ (m : Res Outcome) (w : World) (torn events : ℕ) (mid after : Machine Tables) (state : (v : World) → at_global (state_of mid v) ≡ state_of after v) (writes : after.writes ≡ mid.writes) where
  happened-back : (v : World) (now : ℕ) → Happened m w torn events mid v now → Happened (back_at_global m) w torn events after v now
  happened-back v now h = record { state = ap at_global h.state ∙ state v; out = h.out; whole = h.whole; counted = writes ∙ h.counted }

  short-back : (part : ℕ) (v : World) (now : ℕ) → CutShort m w torn events part mid v now → CutShort (back_at_global m) w torn events part after v now
  short-back part v now h = record {
    first = h.first;
    rest = h.rest;
    split = h.split;
    out = h.out;
    within = h.within;
    part_is = h.part_is;
    counted = writes ∙ h.counted;
  }

  says-back : (r : Result Code Stop) (text : Text) (options : List Pair) (v : World) (now : ℕ) → Says m w torn events r text options mid v now → Says (back_at_global m) w torn events r text options after v now
  says-back (Ok c) text options v now h = (h.0, happened-back v now h.1)
  says-back (Err stop.Budget) text options v now h = (h.0, happened-back v now h.1)
  says-back (Err (stop.Exit n)) text options v now h = (h.0, happened-back v now h.1)
  says-back (Err stop.Device) text options v now h = (h.0, short-back h.0 v now h.1)
  says-back (Err stop.Memory) text options v now h = short-back 0 v now h
  says-back (Err stop.Stopped) text options v now h = h

-- An evaluation behind which the frames that were left open end.
pub evaluates_back : {m : Res Outcome} {w : World} {torn events : ℕ} {r : Result Code Stop} {text text' : Text} {options : List Pair} {now : Outer} (mid after : Machine Tables) →
    ((v : World) → at_global (state_of mid v) ≡ state_of after v) → after.writes ≡ mid.writes → text' ≡ text → Evaluates m w torn events r text options mid now → Evaluates (back_at_global m) w torn events r text' options after now
evaluates_back {m} {w} {torn} {events} {r} {text} {text'} {options} {now} mid after state writes e h =
    subst (λ t. Evaluates (back_at_global m) w torn events r t options after now) (sym e)
    (record { world = h.world; told = h.told; says = says-back m w torn events mid after state writes r text options h.world now.torn h.says })

-- nothing happened before memory ran out
pub evaluates-nothing : {m : Res Outcome} {w : World} {events : ℕ} {q : Result Code Stop} {text : Text} {options : List Pair} {after : Machine Tables} {here : Outer} →
    q ≡ Err stop.Memory → here.told ≡ Some w → after.writes ≡ events → Evaluates m w here.torn events q text options after here
evaluates-nothing {m} {w} {events} {q} {text} {options} {after} {here} e told h = record {
  world = w;
  told = told;
  says = subst (λ x. Says m w here.torn events x text options after w here.torn) (sym e) (record {
    first = [];
    rest = m.events;
    split = refl;
    out = sym (no_part w.out m.events);
    within = omega arith;
    part_is = omega arith;
    counted = omega (arith, h);
  });
}

pub shows-ok : (stack : List Text) (q : Result Code Stop) (text : Text) (kept : Carried) (options : List Pair) {E : Type 0} (made : Result (List Pair) E) →
    IfOk q (λ c. c ≡ code.Ok) → OnOk q (text ≡ last_of stack) → OnOk q (made ≡ Ok options) → IfErr q (λ s. s ≡ stop.Memory) → IfOk made (λ o. o ≡ carried code.Ok kept) → Shows (Ok kept) stack q text options
shows-ok stack (Ok c) text kept options made h k l m n = (h, k, subst (λ r. IfOk r (λ o. o ≡ carried code.Ok kept)) l n)
shows-ok stack (Err s) text kept options made h k l m n = m

pub shows-left : (stack : List Text) (q : Result Code Stop) (text : Text) (l : Leaving) (options : List Pair) {E : Type 0} (made : Result (List Pair) E) →
    IfOk q (λ c. c ≡ code_of l) → OnOk q (text ≡ last_of stack) → OnOk q (made ≡ Ok options) → IfErr q (λ s. s ≡ stop.Memory) → IfOk made (λ o. o ≡ options_of l) → Shows (Err (end.Left l)) stack q text options
shows-left stack (Ok c) text l options made h k m n o = (h, k, subst (λ r. IfOk r (λ x. x ≡ options_of l)) m o)
shows-left stack (Err s) text l options made h k m n o = n

pub if_ok-as : {T E : Type 0} (r : Result T E) (x y : T) → IfOk r (λ v. v ≡ x) → x ≡ y → IfOk r (λ v. v ≡ y)
if_ok-as (Ok v) x y h e = h ∙ e
if_ok-as (Err f) x y h e = h
