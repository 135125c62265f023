-- What `return` asks for, and its outcome.
use Rattle.std.proofs.Common.{◌≡◌, ℕ, zero, suc, ◌+◌, ◌-◌, ◌<◌, ◌≤◌, ◌%◌, Bool, true, false, if◌then◌else◌, List, [], ◌∷◌, ◌++◌, length, length-take, length-append, take, take-take, drop, map, get_or, sym, ap, ◌∙◌, refl, subst, arith, Result, Ok, Err, Some}
use Rattle.std.specs.Prelude.{IfOk, IfErr, OnOk, ◌==◌, pos}
use Rattle.std.proofs.lemmas.List.{get_or-drop}
use Rattle.std.proofs.Math.Seq.{take-append_seam}
use Rattle.tclv_io.specs.World.{World}
use Rattle.tclv_text.specs.Numbers.{whole_text}
use Rattle.tclv_model.specs.declared.data_commands.CmdFault.{CmdFault}
use Rattle.tclv_model.specs.declared.outcomes.Code.{Code}
use Rattle.tclv_model.specs.declared.outcomes.Code.TheVariants as code
use Rattle.tclv_model.specs.declared.outcomes.Pair.{Pair}
use Rattle.tclv_model.specs.Rows.{Answer, Gives}
use Rattle.tclv_value.specs.Changes.{KeepsTexts}
use Rattle.tclv_value.specs.View.{View}
use Rattle.tclv_value.specs.Stacks.{top, under}
use Rattle.tclv_reply.specs.Replies as replies
use Rattle.tclv_ctl.specs.declared.returns.Ret.{Ret}
use Rattle.tclv_ctl.specs.Returns.{Return, IsReturn, pair_of, return_of}
use Rattle.tclv_ctl.specs.Steps.{Understands}
use Rattle.tclv_engine.specs.declared.endings.End.{End}
use Rattle.tclv_engine.specs.declared.machine.Machine.{Machine}
use Rattle.tclv_engine.specs.State.{Text, State, state_of}
use Rattle.tclv_engine.specs.Results.{bind}
use Rattle.tclv_engine.specs.Answers.{Outer, Runs, start, SameState, Above, Keeps, last_of}
use Rattle.tclv_engine.specs.DataAnswers.{of_answer}
use Rattle.tclv_engine.specs.DataSteps.{BecomesError}
use Rattle.tclv_engine.proofs.Binds.{runs_as}
use Rattle.tclv_engine.proofs.Leaves.{value_runs, raise_runs, raises_as}
use Rattle.tclv_engine.proofs.DataLemmas.{arguments_are, message_below, code_on_top}
use Rattle.tclv_engine.proofs.StackLemmas.{last-pushed, take-under}
use Rattle.tclv_engine.proofs.WordLemmas.{top_length}
use Rattle.tclv_control.specs.HandingOn.{hand_on}
use Rattle.tclv_control.specs.ReturnRows.{as_option, first_options, all_options, coming, result_of, returned, wanted_return}
use Rattle.tclv_control.specs.ReturnSteps.{as_return, asked_options, outcome_asked}

-- ---- what the words ask for

module _ {A T : Type 0} (row : Answer A) (Shows : A → T → Type 0) (k : ℕ) (before after : View) (r : Result T CmdFault) (h : Understands row Shows k before after r) where
  pub understood : (t : T) → r ≡ Ok t → replies.IsGiven row Shows t
  understood t e = let P : Result T CmdFault → Type 0 = λ x. IfOk x (λ y. replies.IsGiven row Shows y) in subst P e h.gives

  pub misunderstood : (kind : CmdFault) → r ≡ Err kind → replies.IsRefused row kind k before after
  misunderstood kind e = let P : Result T CmdFault → Type 0 = λ x. IfErr x (λ y. replies.IsRefused row y k before after) in subst P e h.refuses

  pub undisturbed : (t : T) → r ≡ Ok t → after.stack ≡ before.stack
  undisturbed t e = let P : Result T CmdFault → Type 0 = λ x. OnOk x (KeepsTexts before after) in let kept : KeepsTexts before after = subst P e h.kept in kept.stack

pub asked_runs : {W : Type 0} {here : Outer} (row : Answer Return) (ret : Ret) (old new : (Machine W)) (w : World) → here.told ≡ Some w → SameState old new →
    replies.IsGiven row IsReturn ret → Runs (of_answer row (state_of old w)) as_return (start old w here.torn) (Ok ret) new here
asked_runs row ret old new w told same h = runs_as (ap (λ a. of_answer a (state_of old w)) (sym h.given)) (value_runs old told same h.shown)

module _ {W A : Type 0} (row : Answer A) (k : ℕ) (before after : View) where
  pub declined_runs : {T : Type 0} {shows : A → T → List Text → Type 0} (kind : CmdFault) (e : End) (old new : (Machine W)) (w : World) (here : Outer) → here.told ≡ Some w → SameState old new →
      replies.Declines row kind k before after → BecomesError after.stack e new.values.store.stack → Runs {T = T} (of_answer row (state_of old w)) shows (start old w here.torn) (Err e) new here
  declined_runs {T} {shows} kind e old new w here told same d b =
      runs_as (ap (λ a. of_answer a (state_of old w)) (sym d.refused))
      (raise_runs {A = A} {T = T} {shows = shows} old told same
      (raises_as _ _ _ _ new.values.store.stack e (message_below (under k before.stack) after.stack d.message d.code d.stack) (code_on_top (under k before.stack) after.stack d.message d.code d.stack) b.0))

-- ---- the options

pair-again : (p : Pair) → as_option (pair_of p) ≡ p
pair-again p = refl

pub pairs_again : (ps : List Pair) → map as_option (map pair_of ps) ≡ ps
pairs_again [] = refl
pairs_again (p ∷ ps) = ap (λ qs. p ∷ qs) (pairs_again ps)

pub options_are : (r : Return) (ret : Ret) → IsReturn r ret → asked_options ret ≡ all_options r
options_are r ret h =
    ap (λ c. first_options c (whole_text (pos ret.level)) ++ ret.options) h.code
    ∙ ap (λ n. first_options r.code (whole_text (pos n)) ++ ret.options) h.level
    ∙ ap (λ os. first_options r.code (whole_text (pos r.level)) ++ os) (sym (pairs_again ret.options) ∙ ap (map as_option) h.options)

-- the outcome of what the code read is that of what is asked for
pub outcome_is : {W : Type 0} (r : Return) (ret : Ret) (text : Text) (st : (State W)) → IsReturn r ret → outcome_asked ret text st ≡ returned r text st
outcome_is r ret text st h =
    ap (λ n. hand_on (coming n ret.code) text (asked_options ret) st) h.level
    ∙ ap (λ c. hand_on (coming r.level c) text (asked_options ret) st) h.code
    ∙ ap (λ os. hand_on (coming r.level r.code) text os st) (options_are r ret h)

pub coming_zero : (level : ℕ) (c : Code) → level ≡ 0 → c ≡ coming level c
coming_zero zero c h = refl
coming_zero (suc n) c h = absurd (omega (arith, h))

pub coming_some : (level : ℕ) (c : Code) → (level ≡ 0 → ⊥) → code.Return ≡ coming level c
coming_some zero c h = absurd (h refl)
coming_some (suc n) c h = refl

-- ---- the result

-- words that are odd in number have their last one on top
pub result_odd : (stack : List Text) (n : ℕ) → n ≤ length stack → 0 < n → (n % 2 == 1) ≡ true → last_of stack ≡ result_of (top n stack)
result_odd stack n l some h =
    let len = top_length stack n l in
    let odd : (length (top n stack) % 2 == 1) ≡ true = ap (λ k. k % 2 == 1) len ∙ h in
    let place : length stack - n + (length (top n stack) - 1) ≡ length stack - 1 = omega (arith, len, l, some) in
    sym (ap (λ b. if b then last_of (top n stack) else []) odd ∙ get_or-drop (length stack - n) stack (length (top n stack) - 1) [] ∙ ap (λ i. get_or stack i []) place)

pub result_even : (stack : List Text) (n : ℕ) → n ≤ length stack → (n % 2 == 1) ≡ false → [] ≡ result_of (top n stack)
result_even stack n l h =
    let even : (length (top n stack) % 2 == 1) ≡ false = ap (λ k. k % 2 == 1) (top_length stack n l) ∙ h in
    sym (ap (λ b. if b then last_of (top n stack) else []) even)

-- ---- the stack

-- a text that stands over what is below the words
pub over_words : (stack : List Text) (n : ℕ) → 0 < n → n ≤ length stack → Above (under n stack) stack
over_words stack n some l =
    let len : length (under n stack) ≡ length stack - n = omega (arith, length-take (length stack - n) stack) in
    record { kept = ap (λ i. take i stack) len; some = omega (arith, len, some, l) }

pub pushed_words : (stack now : List Text) (n : ℕ) (text : Text) → now ≡ stack ++ text ∷ [] → Above (under n stack) now
pushed_words stack now n text e =
    let len : length (under n stack) ≡ length stack - n = omega (arith, length-take (length stack - n) stack) in
    let whole : take (length stack) now ≡ stack = ap (take (length stack)) e ∙ take-append_seam stack (text ∷ []) in
    record {
      kept = take-under (under n stack) stack now (omega (arith, len)) whole (ap (λ i. take i stack) len);
      some = omega (arith, len, ap length e, length-append stack (text ∷ []));
    }

kept-below : (base now : List Text) (m : ℕ) → length base ≤ m → take (length base) now ≡ base → take (length base) (take m now) ≡ base
kept-below base now m h e = take-take (length base) m now h ∙ e

-- all but the text on top stands over what is below it
pub below_top : (base now : List Text) → Above base now → Keeps base (under 1 now)
below_top base now h =
    let len : length (under 1 now) ≡ length now - 1 = omega (arith, length-take (length now - 1) now) in
    record {
      kept = kept-below base now (length now - 1) (omega (arith, h.some)) h.kept;
      some = omega (arith, len, h.some);
    }

-- ---- the row

pub return_row : {W : Type 0} (stack : List Text) (n : ℕ) (st : (State W)) → 0 < n → n ≤ length stack →
    bind (of_answer (return_of (top (n - 1) stack)) st) (λ r s1. returned r (result_of (top (n - 1) stack)) s1) ≡ wanted_return (top n stack) st
return_row stack n st some l = ap (λ args. bind (of_answer (return_of args) st) (λ r s1. returned r (result_of args) s1)) (arguments_are stack n some l)
