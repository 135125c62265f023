-- What data commands answer, by what their calls leave on the stack.
use Rattle.std.proofs.Common.{◌≡◌, ℕ, ◌+◌, ◌-◌, ◌<◌, ◌≤◌, List, [], ◌∷◌, ◌++◌, length, take, drop, get_or, sym, ap, ◌∙◌, refl, subst, arith, length-take, length-append, take-take, Result, Ok, Err, Some}
use Rattle.std.specs.Prelude.{OnOk, IfErr}
use Rattle.std.proofs.lemmas.List.{append_assoc, drop_more}
use Rattle.std.proofs.Math.Seq.{take-append_seam}
use Rattle.tclv_io.specs.World.{World}
use Rattle.tclv_model.specs.declared.data_commands.CmdFault.{CmdFault}
use Rattle.tclv_model.specs.declared.data_commands.CmdFault.TheVariants as fault
use Rattle.tclv_model.specs.Rows.{Answer, RowAnswer}
use Rattle.tclv_value.specs.View.{View}
use Rattle.tclv_value.specs.Stacks.{top, under}
use Rattle.tclv_reply.specs.Replies as replies
use Rattle.tclv_engine.specs.declared.endings.End.{End}
use Rattle.tclv_engine.specs.declared.machine.Machine.{Machine}
use Rattle.tclv_engine.specs.State.{Text, State, state_of}
use Rattle.tclv_engine.specs.Results.{Res, bind, done, ok, plain}
use Rattle.tclv_engine.specs.Usages.{call_word}
use Rattle.tclv_engine.specs.Answers.{Outer, Runs, start, SameState, Raises, Above, KeepsStack, PushesResult, IsCalm, as_result, last_of}
use Rattle.tclv_engine.specs.DataAnswers.{of_answer, arguments}
use Rattle.tclv_engine.specs.DataSteps.{BecomesError, EndsRefused, HasReply}
use Rattle.tclv_engine.proofs.Binds.{bind_stop, runs_as, answers_as}
use Rattle.tclv_engine.proofs.Leaves.{value_runs, raise_runs, raises_as, memory_runs}
use Rattle.tclv_engine.proofs.StackLemmas.{last-pushed, over_push}
use Rattle.tclv_engine.proofs.WordLemmas.{first_of_top, result_under, over_above, raises_caused}

-- ---- the words

pub call_is : (stack : List Text) (n : ℕ) → 0 < n → n ≤ length stack → replies.call_word (n - 1) stack ≡ call_word (top n stack)
call_is stack n some l =
    let i : length stack - (n - 1) - 1 ≡ length stack - n = omega (arith, some, l) in
    ap (λ k. get_or stack k []) i ∙ first_of_top stack n some l

pub arguments_are : (stack : List Text) (n : ℕ) → 0 < n → n ≤ length stack → top (n - 1) stack ≡ arguments (top n stack)
arguments_are stack n some l =
    let i : length stack - (n - 1) ≡ length stack - n + 1 = omega (arith, some, l) in
    ap (λ k. drop k stack) i ∙ sym (ap (λ ws. arguments ws) (drop_more stack (length stack - n) [] (omega (arith, some, l))))

-- ---- a message and a code on top

pub below_code : (base stack : List Text) (message code : Text) → stack ≡ base ++ message ∷ code ∷ [] → under 1 stack ≡ base ++ message ∷ []
below_code base stack message code e =
    let s : stack ≡ (base ++ message ∷ []) ++ code ∷ [] = e ∙ sym (append_assoc base (message ∷ []) (code ∷ [])) in
    let l : length stack - 1 ≡ length (base ++ message ∷ []) = omega (arith, ap length s, length-append (base ++ message ∷ []) (code ∷ [])) in
    ap (λ k. take k stack) l ∙ ap (take (length (base ++ message ∷ []))) s ∙ take-append_seam (base ++ message ∷ []) (code ∷ [])

pub code_on_top : (base stack : List Text) (message code : Text) → stack ≡ base ++ message ∷ code ∷ [] → last_of stack ≡ code
code_on_top base stack message code e = last-pushed (base ++ message ∷ []) stack code (e ∙ sym (append_assoc base (message ∷ []) (code ∷ [])))

pub message_below : (base stack : List Text) (message code : Text) → stack ≡ base ++ message ∷ code ∷ [] → last_of (under 1 stack) ≡ message
message_below base stack message code e = last-pushed base (under 1 stack) message (below_code base stack message code e)

pub under_reply : (base stack : List Text) (message code : Text) → stack ≡ base ++ message ∷ code ∷ [] → under 2 stack ≡ base
under_reply base stack message code e =
    let l : length stack - 2 ≡ length base = omega (arith, ap length e, length-append base (message ∷ code ∷ [])) in
    ap (λ k. take k stack) l ∙ ap (take (length base)) e ∙ take-append_seam base (message ∷ code ∷ [])

-- ---- what the answer of a row is

given : {W : Type 0} → (text : Text) (st : (State W)) → bind (done text st) ok ≡ ok text st
unfolding bind
given text st = refl

-- a refusal, by the kinds that aren't want of memory
module _ {W A B : Type 0} (row : Answer A) (k : ℕ) (before after : View) where
  pub refused-by : (next : A → (State W) → Res W B) (shows : B → Unit {0} → List Text → Type 0) (kind : CmdFault) (e : End) (old new : (Machine W)) (w : World) (here : Outer) → here.told ≡ Some w → SameState old new →
      replies.Declines row kind k before after → BecomesError after.stack e new.values.store.stack →
      Runs {T = Unit {0}} (bind (of_answer row (state_of old w)) next) shows (start old w here.torn) (Err e) new here
  refused-by next shows kind e old new w here told same d b =
      runs_as (ap (λ a. bind (of_answer a (state_of old w)) next) (sym d.refused))
      (bind_stop next (raise_runs {A = A} {T = Unit {0}} {shows = λ a t stack. Unit {0}} old told same
      (raises_as _ _ _ _ new.values.store.stack e (message_below (under k before.stack) after.stack d.message d.code d.stack) (code_on_top (under k before.stack) after.stack d.message d.code d.stack) b.0)))

  pub refused_as : (next : A → (State W) → Res W B) (shows : B → Unit {0} → List Text → Type 0) (kind : CmdFault) (r : Result (Unit {0}) End) (old new : (Machine W)) (w : World) (here : Outer) → here.told ≡ Some w → SameState old new →
      replies.IsRefused row kind k before after → EndsRefused kind after.stack r new.values.store.stack →
      Runs (bind (of_answer row (state_of old w)) next) shows (start old w here.torn) r new here
  refused_as next shows fault.NoMemory r old new w here told same d b = memory_runs b told same.events
  refused_as next shows fault.WrongArgs (Ok t) old new w here told same d b = absurd b
  refused_as next shows fault.WrongArgs (Err e) old new w here told same d b = refused-by next shows fault.WrongArgs e old new w here told same d b
  refused_as next shows fault.Message (Ok t) old new w here told same d b = absurd b
  refused_as next shows fault.Message (Err e) old new w here told same d b = refused-by next shows fault.Message e old new w here told same d b

module _ {A : Type 0} (row : Answer A) (k : ℕ) (before after : View) where
  -- the message and the code are there
  pub has_reply : (kind : CmdFault) → replies.IsRefused row kind k before after → HasReply kind after.stack
  has_reply fault.NoMemory h = tt
  has_reply fault.WrongArgs h = omega (arith, ap length h.stack, length-append (under k before.stack) (h.message ∷ h.code ∷ []))
  has_reply fault.Message h = omega (arith, ap length h.stack, length-append (under k before.stack) (h.message ∷ h.code ∷ []))

  -- what is left of the stack
  pub refused_stack : (kind : CmdFault) (r : Result (Unit {0}) End) (now : List Text) → replies.IsRefused row kind k before after → EndsRefused kind after.stack r now → PushesResult (under k before.stack) r now
  refused_stack fault.NoMemory r now d b = let P : Result (Unit {0}) End → Type 0 = λ x. PushesResult (under k before.stack) x now in subst P (sym b) tt
  refused_stack fault.WrongArgs (Ok t) now d b = absurd b
  refused_stack fault.WrongArgs (Err e) now d b = let P : List Text → Type 0 = λ base. KeepsStack {T = Unit {0}} base (Err e) now in subst P (under_reply (under k before.stack) after.stack d.message d.code d.stack) b.1
  refused_stack fault.Message (Ok t) now d b = absurd b
  refused_stack fault.Message (Err e) now d b = let P : List Text → Type 0 = λ base. KeepsStack {T = Unit {0}} base (Err e) now in subst P (under_reply (under k before.stack) after.stack d.message d.code d.stack) b.1

-- what is left of a stack from which the code was taken
pub without_code : (stack now : List Text) → 2 ≤ length stack → now ≡ under 1 stack → Above (under 2 stack) now
without_code stack now l e =
    let inner : length (under 2 stack) ≡ length stack - 2 = omega (arith, l, length-take (length stack - 2) stack) in
    record {
      kept = ap (λ n. take n now) inner ∙ ap (take (length stack - 2)) e ∙ take-take (length stack - 2) (length stack - 1) stack (omega arith);
      some = omega (arith, l, inner, ap length e, length-take (length stack - 1) stack);
    }

-- a refusal touches no device
raises_calm : (text errorcode : Text) (stack : List Text) (e : End) → Raises text errorcode stack e → IsCalm {T = Unit {0}} (Err e)
raises_calm text errorcode stack e h = raises_caused (Unit {0}) text errorcode stack e 0 0 h refl

refused_calm : (kind : CmdFault) (before now : List Text) (r : Result (Unit {0}) End) → EndsRefused kind before r now → IsCalm r
refused_calm fault.NoMemory before now r h = let P : Result (Unit {0}) End → Type 0 = λ x. IsCalm x in subst P (sym h) refl
refused_calm fault.WrongArgs before now (Ok t) h = absurd h
refused_calm fault.WrongArgs before now (Err e) h = raises_calm _ _ now e h.0
refused_calm fault.Message before now (Ok t) h = absurd h
refused_calm fault.Message before now (Err e) h = raises_calm _ _ now e h.0

-- how a data command ends in the code
pub ended_calm : (done : Result (Unit {0}) CmdFault) (before now : List Text) (r : Result (Unit {0}) End) → OnOk done ((r ≡ Ok tt) × (now ≡ before)) → IfErr done (λ kind. EndsRefused kind before r now) → IsCalm r
ended_calm (Ok t) before now r h k = let P : Result (Unit {0}) End → Type 0 = λ x. IsCalm x in subst P (sym h.0) refl
ended_calm (Err kind) before now r h k = refused_calm kind before now r k

-- ---- data commands that touch no variable

under_next : (n : ℕ) (stack : List Text) → 0 < n → n ≤ length stack → under 1 (under (n - 1) stack) ≡ under n stack
under_next n stack some l =
    let inner : length (under (n - 1) stack) - 1 ≡ length stack - n = omega (arith, some, l, length-take (length stack - (n - 1)) stack) in
    ap (λ i. take i (under (n - 1) stack)) inner ∙ take-take (length stack - n) (length stack - (n - 1)) stack (omega (arith, some, l))

one_more : (base : List Text) (text : Text) (now : List Text) → now ≡ base ++ text ∷ [] → Above base now
one_more base text now e = over_above base now (over_push base now text e)

-- a result over all but the word of the call
pub over_call : (n : ℕ) (stack : List Text) (r : Result (Unit {0}) End) (now : List Text) → 0 < n → n ≤ length stack → PushesResult (under (n - 1) stack) r now → PushesResult (under n stack) r now
over_call n stack r now some l h =
    let P : List Text → Type 0 = λ base. PushesResult base r now in
    subst P (under_next n stack some l) (result_under 1 (under (n - 1) stack) r now h)

pub results_stack : (k : ℕ) (stack : List Text) (text : Text) (r : Result (Unit {0}) End) (mid now : List Text) → mid ≡ under k stack ++ text ∷ [] → r ≡ Ok tt → now ≡ mid → PushesResult (under k stack) r now
results_stack k stack text r mid now e h s =
    let P : Result (Unit {0}) End → Type 0 = λ x. PushesResult (under k stack) x now in
    subst P (sym h) (one_more (under k stack) text now (s ∙ e))

module _ {W : Type 0} (row : RowAnswer) (k : ℕ) (before after : View) where
  pub data_runs : (done : Result (Unit {0}) CmdFault) (r : Result (Unit {0}) End) (old new : (Machine W)) (w : World) (here : Outer) → here.told ≡ Some w → SameState old new →
      replies.Answers row k before after done → OnOk done ((r ≡ Ok tt) × (new.values.store.stack ≡ after.stack)) → IfErr done (λ kind. EndsRefused kind after.stack r new.values.store.stack) →
      Runs (bind (of_answer row (state_of old w)) ok) as_result (start old w here.torn) r new here
  data_runs (Ok t) r old new w here told same h p q =
      runs_as (sym (given h.gives.text (state_of old w)) ∙ ap (λ a. bind (of_answer a (state_of old w)) ok) (sym h.gives.given))
      (answers_as p.0 (value_runs {a = plain h.gives.text} {shows = as_result} old told same (last-pushed (under k before.stack) new.values.store.stack h.gives.text (p.1 ∙ h.gives.stack), refl)))
  data_runs (Err kind) r old new w here told same h p q = refused_as row k before after ok as_result kind r old new w here told same h.refuses q

module _ (row : RowAnswer) (k : ℕ) (before after : View) where
  pub data_stack : (done : Result (Unit {0}) CmdFault) (r : Result (Unit {0}) End) (now : List Text) →
      replies.Answers row k before after done → OnOk done ((r ≡ Ok tt) × (now ≡ after.stack)) → IfErr done (λ kind. EndsRefused kind after.stack r now) → PushesResult (under k before.stack) r now
  data_stack (Ok t) r now h p q = results_stack k before.stack h.gives.text r after.stack now h.gives.stack p.0 p.1
  data_stack (Err kind) r now h p q = refused_stack row k before after kind r now h.refuses q

  pub replied : (done : Result (Unit {0}) CmdFault) → replies.Answers row k before after done → IfErr done (λ kind. HasReply kind after.stack)
  replied (Ok t) h = tt
  replied (Err kind) h = has_reply row k before after kind h.refuses
