-- What `proc` makes of its words, and the table that a procedure joins.
use Rattle.std.proofs.Common.{◌≡◌, ℕ, ◌+◌, ◌-◌, ◌<◌, ◌≤◌, List, [], ◌∷◌, length, drop, get_or, sym, ap, ◌∙◌, refl, subst, arith, true, false, Result, Ok, Err, Some}
use Rattle.std.specs.Prelude.{IfOk, IfErr, OnOk}
use Rattle.std.specs.FinMap.{insert}
use Rattle.std.proofs.lemmas.Bool.{cond-true, cond-false}
use Rattle.std.proofs.lemmas.List.{get_or-drop}
use Rattle.tclv_io.specs.World.{World}
use Rattle.tclv_model.specs.declared.data_commands.CmdFault.{CmdFault}
use Rattle.tclv_model.specs.Rows.{Answer, Gives}
use Rattle.tclv_names.specs.Keyed.{Named}
use Rattle.tclv_value.specs.Changes.{KeepsTexts}
use Rattle.tclv_value.specs.Procedures.{Procedure}
use Rattle.tclv_value.specs.View.{View}
use Rattle.tclv_value.specs.Stacks.{top, under}
use Rattle.tclv_reply.specs.Names.{is_qualified}
use Rattle.tclv_reply.specs.Replies as replies
use Rattle.tclv_ctl.specs.Parameters.{proc_of}
use Rattle.tclv_ctl.specs.Steps.{Understands}
use Rattle.tclv_engine.specs.declared.endings.End.{End}
use Rattle.tclv_engine.specs.declared.endings.End.TheVariants as end
use Rattle.tclv_engine.specs.declared.machine.Machine.{Machine}
use Rattle.tclv_engine.specs.Holdings.{Holdings, SameVariables}
use Rattle.tclv_engine.specs.State.{Text, state_of, own_in, with_own}
use Rattle.tclv_engine.specs.Results.{bind, ok}
use Rattle.tclv_engine.specs.Names.{bytes_of}
use Rattle.tclv_engine.specs.Variables.{not_built}
use Rattle.tclv_engine.specs.Answers.{Outer, Runs, start, SameState, PushesWords, PushesResult}
use Rattle.tclv_engine.specs.Usages.{call_word}
use Rattle.tclv_engine.specs.DataAnswers.{of_answer}
use Rattle.tclv_engine.specs.DataSteps.{BecomesError}
use Rattle.tclv_engine.proofs.Binds.{runs_as}
use Rattle.tclv_engine.proofs.Leaves.{raise_runs, raises_as}
use Rattle.tclv_engine.proofs.DataLemmas.{call_is, arguments_are, message_below, code_on_top}
use Rattle.tclv_interp.specs.declared.builtins.Tables.{Tables}
use Rattle.tclv_interp.specs.declared.builtins.Target.{Target}
use Rattle.tclv_interp.specs.declared.builtins.Target.TheVariants as target
use Rattle.tclv_interp.specs.Commands.{State}
use Rattle.tclv_interp.specs.ProcRows.{defined, row_proc}

-- ---- what the words ask for

module _ {A T : Type 0} (row : Answer A) (Shows : A → T → Type 0) (k : ℕ) (before after : View) (r : Result T CmdFault) (h : Understands row Shows k before after r) where
  pub understood : (t : T) → r ≡ Ok t → replies.IsGiven row Shows t
  understood t e = let P : Result T CmdFault → Type 0 = λ x. IfOk x (λ y. replies.IsGiven row Shows y) in subst P e h.gives

  pub misunderstood : (kind : CmdFault) → r ≡ Err kind → replies.IsRefused row kind k before after
  misunderstood kind e = let P : Result T CmdFault → Type 0 = λ x. IfErr x (λ y. replies.IsRefused row y k before after) in subst P e h.refuses

  pub undisturbed : (t : T) → r ≡ Ok t → after.stack ≡ before.stack
  undisturbed t e = let P : Result T CmdFault → Type 0 = λ x. OnOk x (KeepsTexts before after) in let kept : KeepsTexts before after = subst P e h.kept in kept.stack

pub declined_runs : {A T : Type 0} {shows : A → T → List Text → Type 0} (row : Answer A) (k : ℕ) (before after : View) (kind : CmdFault) (e : End) (old new : Machine Tables) (w : World) (here : Outer) →
    here.told ≡ Some w → SameState old new → replies.Declines row kind k before after → BecomesError after.stack e new.values.store.stack →
    Runs {T = T} (of_answer row (state_of old w)) shows (start old w here.torn) (Err e) new here
declined_runs {A} {T} {shows} row k before after kind e old new w here told same d b =
    runs_as (ap (λ a. of_answer a (state_of old w)) (sym d.refused))
    (raise_runs {A = A} {T = T} {shows = shows} old told same
    (raises_as _ _ _ _ new.values.store.stack e (message_below (under k before.stack) after.stack d.message d.code d.stack) (code_on_top (under k before.stack) after.stack d.message d.code d.stack) b.0))

-- a procedure is made of some words
some-words : (call : Text) (words : List Text) (d : Procedure) → proc_of call words ≡ Gives d → 0 < length words
some-words call [] d e = cc
some-words call (word ∷ words) d e = omega arith

pub some_words : (stack : List Text) (n : ℕ) (call : Text) (d : Procedure) → n ≤ length stack → length (top n stack) ≡ n → proc_of call (top n stack) ≡ Gives d → 0 < n
some_words stack n call d l len e =
    let some = some-words call (top n stack) d e in
    omega (arith, some, len)

-- ---- the table

-- the tables are these, and nothing else changed
pub own_state : (old : Machine Tables) (values : Holdings) (own : Tables) (w : World) → SameVariables old.values values →
    state_of (record old { values = values; own = own }) w ≡ with_own own (state_of old w)
own_state old values own w h = rw (h.vars, h.cells)

module _ (xs : List ℕ) (name : Text) (d : Procedure) (st : State) (e : xs ≡ bytes_of name) where
  pub defined-qualified : is_qualified xs ≡ true → not_built st ≡ defined name d st
  defined-qualified h = let t : is_qualified (bytes_of name) ≡ true = sym (ap is_qualified e) ∙ h in sym (cond-true _ _ _ t)

  pub defined-plain : (ys : List ℕ) (commands : Named Target) → ys ≡ bytes_of name → is_qualified xs ≡ false → commands ≡ insert (own_in st).commands ys (target.Procedure d) →
      ok [] (with_own (record (own_in st) { commands = commands }) st) ≡ defined name d st
  defined-plain ys commands f h k =
      let t : is_qualified (bytes_of name) ≡ false = sym (ap is_qualified e) ∙ h in
      ap (λ (cs : Named Target). ok [] (with_own (record (own_in st) { commands = cs }) st)) (k ∙ ap (λ b. insert (own_in st).commands b (target.Procedure d)) f)
      ∙ sym (cond-false _ _ _ t)

-- ---- the row

pub proc_row : (stack : List Text) (n : ℕ) (st : State) → 0 < n → n ≤ length stack →
    bind (of_answer (proc_of (replies.call_word (n - 1) stack) (top (n - 1) stack)) st) (λ d s1. defined (get_or stack (length stack - (n - 1)) []) d s1) ≡ row_proc (top n stack) st
proc_row stack n st some l =
    let first : get_or stack (length stack - (n - 1)) [] ≡ get_or (top (n - 1) stack) 0 [] =
    sym (get_or-drop (length stack - (n - 1)) stack 0 [] ∙ ap (λ i. get_or stack i []) (omega arith)) in
    ap (λ name. bind (of_answer (proc_of (replies.call_word (n - 1) stack) (top (n - 1) stack)) st) (λ d s1. defined name d s1)) first
    ∙ ap (λ call. bind (of_answer (proc_of call (top (n - 1) stack)) st) (λ d s1. defined (get_or (top (n - 1) stack) 0 []) d s1)) (call_is stack n some l)
    ∙ ap (λ args. bind (of_answer (proc_of (call_word (top n stack)) args) st) (λ d s1. defined (get_or args 0 []) d s1)) (arguments_are stack n some l)

-- ---- the stack

words-above : (S T : Type 0) (base now : List Text) (e : End) → PushesWords {T = S} base (Err e) now → PushesResult {T = T} base (Err e) now
words-above S T base now (end.Left l) h = h
words-above S T base now end.Budget h = tt
words-above S T base now (end.Exit s) h = tt
words-above S T base now end.Device h = tt
words-above S T base now end.Memory h = tt

-- an error over what is below words is one as it is of a result
pub words_above : (S : Type 0) {T : Type 0} (base now : List Text) (r : Result T End) (e : End) → r ≡ Err e → PushesWords {T = S} base (Err e) now → PushesResult base r now
words_above S {T} base now r e is h = let P : Result T End → Type 0 = λ x. PushesResult base x now in subst P (sym is) (words-above S T base now e h)
