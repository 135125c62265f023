-- Answers of calls that touch no outside.
use Rattle.std.proofs.Common.{◌≡◌, ℕ, List, [], Result, Ok, Err, sym, ap, ◌∙◌, refl, subst, Some, arith}
use Rattle.tclv_io.specs.World.{World}
use Rattle.tclv_engine.specs.declared.endings.Leaving.{Leaving}
use Rattle.tclv_engine.specs.declared.endings.Leaving.TheVariants.{Error, Other}
use Rattle.tclv_model.specs.declared.outcomes.Code.TheVariants as code
use Rattle.tclv_engine.specs.declared.endings.End.{End}
use Rattle.tclv_engine.specs.declared.endings.End.TheVariants as end
use Rattle.tclv_engine.specs.declared.machine.Machine.{Machine}
use Rattle.tclv_engine.specs.State.{Text, State, state_of}
use Rattle.tclv_engine.specs.Results.{Ending, Done, Left, Budget, Exit, Res, ends, done, error, error_options, raise}
use Rattle.tclv_model.specs.ErrorCodes.{error_code}
use Rattle.tclv_engine.specs.Answers.{Outer, Start, Ends, Runs, code_of, options_of, last_of, SameState, Raises, LeavesEmpty}
use Rattle.std.specs.Str.{chars}
use Rattle.std.proofs.lemmas.Str.{chars-nil}
use Rattle.tclv_model.specs.declared.messages.MessageId.{MessageId}
use Rattle.tclv_model.specs.Message.{text_of}
use Rattle.tclv_model.specs.declared.error_codes.ErrorCode.{ErrorCode}
use Rattle.tclv_engine.proofs.EventLemmas.{no_part}
use Rattle.tclv_engine.proofs.Binds.{runs_as}

-- an ending without events
calm-ends : {W A : Type 0} (e : Ending A) (n : ℕ) (new : (Machine W)) (w : World) (torn : ℕ) → new.writes ≡ n → Ends (ends e (state_of new w)) (record { world = w; torn = torn; events = n }) e new w torn
calm-ends e n new w torn h = record { ending = refl; state = refl; out = refl; whole = refl; counted = omega (arith, h) }

-- a value that shows
pub done_runs : {W A T : Type 0} {a : A} {t : T} {shows : A → T → List Text → Type 0} {new : (Machine W)} {w : World} {here : Outer} {n : ℕ} →
    here.told ≡ Some w → new.writes ≡ n → shows a t new.values.store.stack → Runs (done a (state_of new w)) shows (record { world = w; torn = here.torn; events = n }) (Ok t) new here
done_runs {a = a} {new = new} {w = w} {here = here} {n = n} told h k = record { world = w; told = told; says = record { value = a; ends = calm-ends (Done a) n new w here.torn h; shown = k } }

-- a code with the text on top
pub left_runs : {W A T : Type 0} {l : Leaving} {shows : A → T → List Text → Type 0} {new : (Machine W)} {w : World} {here : Outer} {n : ℕ} →
    here.told ≡ Some w → new.writes ≡ n →
    Runs {T = T} (ends (Left (code_of l) (last_of new.values.store.stack) (options_of l)) (state_of new w)) shows (record { world = w; torn = here.torn; events = n }) (Err (end.Left l)) new here
left_runs {new = new} {w = w} {here = here} {n = n} told h = record { world = w; told = told; says = calm-ends _ n new w here.torn h }

pub budget_runs : {W A T : Type 0} {shows : A → T → List Text → Type 0} {new : (Machine W)} {w : World} {here : Outer} {n : ℕ} →
    here.told ≡ Some w → new.writes ≡ n → Runs {T = T} (ends Budget (state_of new w)) shows (record { world = w; torn = here.torn; events = n }) (Err end.Budget) new here
budget_runs {new = new} {w = w} {here = here} {n = n} told h = record { world = w; told = told; says = calm-ends _ n new w here.torn h }

pub exit_runs : {W A T : Type 0} {status : ℕ} {shows : A → T → List Text → Type 0} {new : (Machine W)} {w : World} {here : Outer} {n : ℕ} →
    here.told ≡ Some w → new.writes ≡ n → Runs {T = T} (ends (Exit status) (state_of new w)) shows (record { world = w; torn = here.torn; events = n }) (Err (end.Exit status)) new here
exit_runs {new = new} {w = w} {here = here} {n = n} told h = record { world = w; told = told; says = calm-ends _ n new w here.torn h }

-- want of memory, before anything happened
pub no_memory : {W A T : Type 0} {m : Res W A} {shows : A → T → List Text → Type 0} {new : (Machine W)} {w : World} {here : Outer} {n : ℕ} →
    here.told ≡ Some w → new.writes ≡ n → Runs {T = T} m shows (record { world = w; torn = here.torn; events = n }) (Err end.Memory) new here
no_memory {m = m} {w = w} told h = record { world = w; told = told; says = record { first = []; rest = m.events; split = refl; out = sym (no_part w.out m.events); within = omega arith; part_is = omega arith; counted = omega (arith, h) } }

-- ---- calls that change nothing but the stack

pub same_state : {W : Type 0} → (old new : (Machine W)) (w : World) → SameState old new → state_of new w ≡ state_of old w
same_state old new w h = rw (h.variables.vars, h.variables.cells, h.own, h.units, h.depth, h.events)

-- a value that shows
pub value_runs : {W A T : Type 0} {a : A} {t : T} {shows : A → T → List Text → Type 0} {new : (Machine W)} {w : World} {here : Outer} (old : (Machine W)) →
    here.told ≡ Some w → SameState old new → shows a t new.values.store.stack → Runs (done a (state_of old w)) shows (record { world = w; torn = here.torn; events = old.writes }) (Ok t) new here
value_runs {A} {T} {a} {t} {shows} {new} {w} {here} old told h k =
    let P : (State _) → Type 0 = λ st. Runs (done a st) shows (record { world = w; torn = here.torn; events = old.writes }) (Ok t) new here in
    subst P (same_state old new w h) (done_runs told h.events k)

raised : {W T : Type 0} (A : Type 0) (text errorcode : Text) (e : End) (shows : A → T → List Text → Type 0) (old new : (Machine W)) (w : World) (here : Outer) →
    here.told ≡ Some w → SameState old new → Raises text errorcode new.values.store.stack e →
    Runs {T = T} (error text errorcode (state_of old w)) shows (record { world = w; torn = here.torn; events = old.writes }) (Err e) new here
raised A text errorcode (end.Left (Error c)) shows old new w here told h k =
    runs_as
    (ap (λ x. ends (Left code.Error x (error_options c)) (state_of new w)) k.1
    ∙ ap (λ x. ends (Left code.Error text (error_options x)) (state_of new w)) k.0
    ∙ ap (λ st. error text errorcode st) (same_state old new w h))
    (left_runs told h.events)
raised A text errorcode (end.Left (Other cd kept)) shows old new w here told h k = absurd k
raised A text errorcode end.Budget shows old new w here told h k = absurd k
raised A text errorcode (end.Exit n) shows old new w here told h k = absurd k
raised A text errorcode end.Device shows old new w here told h k = absurd k
raised A text errorcode end.Memory shows old new w here told h k = no_memory told h.events

-- an error
pub raise_runs : {W A T : Type 0} {text errorcode : Text} {e : End} {shows : A → T → List Text → Type 0} {new : (Machine W)} {w : World} {here : Outer} (old : (Machine W)) →
    here.told ≡ Some w → SameState old new → Raises text errorcode new.values.store.stack e →
    Runs {T = T} (error text errorcode (state_of old w)) shows (record { world = w; torn = here.torn; events = old.writes }) (Err e) new here
raise_runs {A} {T} {text} {errorcode} {e} {shows} {new} {w} {here} old told h k = raised {T = T} A text errorcode e shows old new w here told h k

left-empty : {W T : Type 0} (A : Type 0) (l : Leaving) (e : End) (shows : A → T → List Text → Type 0) (old new : (Machine W)) (w : World) (here : Outer) →
    here.told ≡ Some w → SameState old new → LeavesEmpty l new.values.store.stack e →
    Runs {T = T} (ends (Left (code_of l) [] (options_of l)) (state_of old w)) shows (record { world = w; torn = here.torn; events = old.writes }) (Err e) new here
left-empty A l (end.Left m) shows old new w here told h k =
    runs_as
    (ap (λ x. ends (Left (code_of m) x (options_of m)) (state_of new w)) k.1
    ∙ ap (λ x. ends (Left (code_of x) [] (options_of x)) (state_of new w)) k.0
    ∙ ap (λ st. ends (Left (code_of l) [] (options_of l)) st) (same_state old new w h))
    (left_runs told h.events)
left-empty A l end.Budget shows old new w here told h k = absurd k
left-empty A l (end.Exit n) shows old new w here told h k = absurd k
left-empty A l end.Device shows old new w here told h k = absurd k
left-empty A l end.Memory shows old new w here told h k = no_memory told h.events

-- a code with the empty text
pub left_empty : {W A T : Type 0} {e : End} {shows : A → T → List Text → Type 0} {new : (Machine W)} {w : World} {here : Outer} (old : (Machine W)) (l : Leaving) →
    here.told ≡ Some w → SameState old new → LeavesEmpty l new.values.store.stack e →
    Runs {T = T} (ends (Left (code_of l) [] (options_of l)) (state_of old w)) shows (record { world = w; torn = here.torn; events = old.writes }) (Err e) new here
left_empty {A} {T} {e} {shows} {new} {w} {here} old l told h k = left-empty {T = T} A l e shows old new w here told h k

pub raises_as : (t t' c c' : Text) (stack : List Text) (e : End) → t ≡ t' → c ≡ c' → Raises t c stack e → Raises t' c' stack e
raises_as t t' c c' stack e p q h = let P : Text → Type 0 = λ x. Raises x c stack e in let Q : Text → Type 0 = λ x. Raises t' x stack e in subst Q q (subst P p h)

-- an error, as a call raises it whose second part is empty
pub raise_first : {W A T : Type 0} {e : End} {shows : A → T → List Text → Type 0} {new : (Machine W)} {w : World} {here : Outer} (old : (Machine W)) (kind kind' : MessageId) (first : Text) (errorcode errorcode' : ErrorCode) →
    here.told ≡ Some w → SameState old new → kind ≡ kind' → errorcode ≡ errorcode' →
    Raises (text_of kind first (chars [])) (error_code errorcode first) new.values.store.stack e →
    Runs {T = T} (raise kind' first [] errorcode' (state_of old w)) shows (record { world = w; torn = here.torn; events = old.writes }) (Err e) new here
raise_first {e = e} {new = new} old kind kind' first errorcode errorcode' told h p q k =
    raise_runs old told h
    (raises_as _ _ _ _ new.values.store.stack e (ap (λ x. text_of x first (chars [])) p ∙ ap (λ x. text_of kind' first x) chars-nil) (ap (λ x. error_code x first) q) k)

-- the same, where both parts are empty
pub raise_bare : {W A T : Type 0} {e : End} {shows : A → T → List Text → Type 0} {new : (Machine W)} {w : World} {here : Outer} (old : (Machine W)) (kind kind' : MessageId) (errorcode errorcode' : ErrorCode) →
    here.told ≡ Some w → SameState old new → kind ≡ kind' → errorcode ≡ errorcode' →
    Raises (text_of kind (chars []) (chars [])) (error_code errorcode (chars [])) new.values.store.stack e →
    Runs {T = T} (raise kind' [] [] errorcode' (state_of old w)) shows (record { world = w; torn = here.torn; events = old.writes }) (Err e) new here
raise_bare {e = e} {new = new} old kind kind' errorcode errorcode' told h p q k =
    raise_runs old told h
    (raises_as _ _ _ _ new.values.store.stack e
    (ap (λ x. text_of x (chars []) (chars [])) p ∙ ap (λ x. text_of kind' x (chars [])) chars-nil ∙ ap (λ x. text_of kind' [] x) chars-nil)
    (ap (λ x. error_code x (chars [])) q ∙ ap (λ x. error_code errorcode' x) chars-nil) k)

-- want of memory, known by an equation
pub memory_runs : {W A T : Type 0} {m : Res W A} {r : Result T End} {shows : A → T → List Text → Type 0} {new : (Machine W)} {w : World} {here : Outer} {n : ℕ} →
    r ≡ Err end.Memory → here.told ≡ Some w → new.writes ≡ n → Runs m shows (record { world = w; torn = here.torn; events = n }) r new here
memory_runs {m = m} {shows = shows} {new = new} {w = w} {here = here} {n = n} e told h =
    let P : Result _ End → Type 0 = λ x. Runs m shows (record { world = w; torn = here.torn; events = n }) x new here in
    subst P (sym e) (no_memory told h)

-- a call from a state that is the same
pub from_same : {W A T : Type 0} {r : Result T End} {shows : A → T → List Text → Type 0} {new : (Machine W)} {w : World} {torn : ℕ} {now : Outer} (old mid : (Machine W)) (m : (State W) → Res W A) →
    SameState old mid → Runs (m (state_of mid w)) shows (record { world = w; torn = torn; events = mid.writes }) r new now →
    Runs (m (state_of old w)) shows (record { world = w; torn = torn; events = old.writes }) r new now
from_same {r = r} {shows = shows} {new = new} {w = w} {torn = torn} {now = now} old mid m h k =
    let P : (State _) → Type 0 = λ st. Runs (m st) shows (record { world = w; torn = torn; events = mid.writes }) r new now in
    let Q : ℕ → Type 0 = λ n. Runs (m (state_of old w)) shows (record { world = w; torn = torn; events = n }) r new now in
    subst Q h.events (subst P (same_state old mid w h) k)

-- behind a call nothing but the stack changed
pub then_same : {W A T : Type 0} {m : Res W A} {given shows : A → T → List Text → Type 0} {s : Start} {t : T} {mid new : (Machine W)} {now : Outer} →
    Runs m given s (Ok t) mid now → SameState mid new → ((a : A) → given a t mid.values.store.stack → shows a t new.values.store.stack) → Runs m shows s (Ok t) new now
then_same {mid = mid} {new = new} h k f = record {
  world = h.world;
  told = h.told;
  says = record {
    value = h.says.value;
    ends = record {
      ending = h.says.ends.ending;
      state = h.says.ends.state ∙ sym (same_state mid new h.world k);
      out = h.says.ends.out;
      whole = h.says.ends.whole;
      counted = k.events ∙ h.says.ends.counted;
    };
    shown = f h.says.value h.says.shown;
  };
}
