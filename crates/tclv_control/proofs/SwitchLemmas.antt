-- What `switch` asks for and chooses, by what the calls for its words leave on the stack.
use Rattle.std.proofs.Common.{◌≡◌, ℕ, ◌-◌, ◌<◌, ◌≤◌, List, [], length, get_or, sym, ap, ◌∙◌, subst, map, Result, Ok, Err, Option, Some, None}
use Rattle.std.specs.Prelude.{IfOk, IfErr}
use Rattle.std.specs.Option.{option_map}
use Rattle.tclv_io.specs.World.{World}
use Rattle.tclv_model.specs.declared.data_commands.CmdFault.{CmdFault}
use Rattle.tclv_model.specs.Rows.{Answer}
use Rattle.tclv_value.specs.View.{View}
use Rattle.tclv_value.specs.Stacks.{top, under}
use Rattle.tclv_reply.specs.Replies as replies
use Rattle.tclv_ctl.specs.declared.switching.SwitchPlan.{SwitchPlan}
use Rattle.tclv_ctl.specs.Steps.{IsShown}
use Rattle.tclv_ctl.specs.Switching.{Choice, IsPlanOf, Plans, chosen_by, fitting_body, clause_in, row_switch}
use Rattle.tclv_engine.specs.declared.endings.End.{End}
use Rattle.tclv_engine.specs.declared.machine.Machine.{Machine}
use Rattle.tclv_engine.specs.State.{Text, State, state_of}
use Rattle.tclv_engine.specs.Results.{bind, done, plain}
use Rattle.tclv_engine.specs.Usages.{call_word}
use Rattle.tclv_engine.specs.Answers.{Outer, Runs, start, SameState}
use Rattle.tclv_engine.specs.DataAnswers.{of_answer}
use Rattle.tclv_engine.specs.DataSteps.{BecomesError}
use Rattle.tclv_engine.specs.Plans.{Run, Finished}
use Rattle.tclv_engine.proofs.Binds.{runs_as}
use Rattle.tclv_engine.proofs.Leaves.{value_runs, raise_runs, raises_as}
use Rattle.tclv_engine.proofs.DataLemmas.{call_is, arguments_are, message_below, code_on_top}
use Rattle.tclv_control.specs.SwitchRows.{body_of, run_of, wanted_switch}

-- ---- what the words ask for

module _ (row : Answer Choice) (k : ℕ) (before after : View) (r : Result SwitchPlan CmdFault) (h : Plans row k before after r) where
  pub planned : (plan : SwitchPlan) → r ≡ Ok plan → IsShown row IsPlanOf plan before after
  planned plan e = let P : Result SwitchPlan CmdFault → Type 0 = λ x. IfOk x (λ p. IsShown row IsPlanOf p before after) in subst P e h.gives

  pub declined : (kind : CmdFault) → r ≡ Err kind → replies.IsRefused row kind k before after
  declined kind e = let P : Result SwitchPlan CmdFault → Type 0 = λ x. IfErr x (λ x. replies.IsRefused row x k before after) in subst P e h.refuses

pub plan_runs : {W : Type 0} {here : Outer} (row : Answer Choice) (plan : SwitchPlan) (before after : View) (old new : (Machine W)) (w : World) → here.told ≡ Some w → SameState old new → new.values.store.stack ≡ after.stack →
    IsShown row IsPlanOf plan before after → Runs (of_answer row (state_of old w)) IsPlanOf (start old w here.torn) (Ok plan) new here
plan_runs row plan before after old new w told same e h =
    let P : List Text → Type 0 = λ s. IsPlanOf h.read plan s in
    runs_as (ap (λ a. of_answer a (state_of old w)) (sym h.given)) (value_runs old told same (subst P (sym e) h.shown))

module _ {W : Type 0} (row : Answer Choice) (k : ℕ) (before after : View) where
  pub declined_runs : {T : Type 0} {shows : Choice → T → List Text → Type 0} (kind : CmdFault) (e : End) (old new : (Machine W)) (w : World) (here : Outer) → here.told ≡ Some w → SameState old new →
      replies.Declines row kind k before after → BecomesError after.stack e new.values.store.stack → Runs {T = T} (of_answer row (state_of old w)) shows (start old w here.torn) (Err e) new here
  declined_runs {T} {shows} kind e old new w here told same d b =
      runs_as (ap (λ a. of_answer a (state_of old w)) (sym d.refused))
      (raise_runs {A = Choice} {T = T} {shows = shows} old told same
      (raises_as _ _ _ _ new.values.store.stack e (message_below (under k before.stack) after.stack d.message d.code d.stack) (code_on_top (under k before.stack) after.stack d.message d.code d.stack) b.0))

-- ---- the chosen body

-- a plan chooses the body of what is asked for
pub chosen_is : (asked : Choice) (plan : SwitchPlan) (stack : List Text) → IsPlanOf asked plan stack → chosen_by plan stack ≡ body_of asked
chosen_is asked plan stack h =
    ap (λ m. fitting_body (record { matching = m; nocase = plan.nocase }) (get_or stack plan.string []) (map (clause_in stack) plan.clauses.items)) h.matching
    ∙ ap (λ b. fitting_body (record { matching = asked.manner.matching; nocase = b }) (get_or stack plan.string []) (map (clause_in stack) plan.clauses.items)) h.nocase
    ∙ ap (λ t. fitting_body asked.manner t (map (clause_in stack) plan.clauses.items)) h.string
    ∙ ap (fitting_body asked.manner asked.string) (sym h.clauses.are)

-- what runs where a body is chosen, by its place, and what is there where none is
module _ {K : Type 0} (hand_on : K) (old : List Text) (found : Option ℕ) (choice : Option Text) (h : option_map (λ i. get_or old i []) found ≡ choice) where
  pub run_some : (now : List Text) (body : ℕ) → found ≡ Some body → now ≡ old → Run (get_or now body []) hand_on ≡ run_of hand_on choice
  run_some now body e k =
      ap (λ s. run_of hand_on (Some (get_or s body []))) k
      ∙ ap (λ x. run_of hand_on (option_map (λ i. get_or old i []) x)) (sym e)
      ∙ ap (run_of hand_on) h

  pub run_none : found ≡ None → Finished (plain []) ≡ run_of hand_on choice
  run_none e = ap (λ x. run_of hand_on (option_map (λ i. get_or old i []) x)) (sym e) ∙ ap (run_of hand_on) h

-- ---- the row

pub switch_row : {W K : Type 0} → (hand_on : K) (stack : List Text) (n : ℕ) (st : (State W)) → 0 < n → n ≤ length stack →
    bind (of_answer (row_switch (replies.call_word (n - 1) stack) (top (n - 1) stack)) st) (λ asked s1. done (run_of hand_on (body_of asked)) s1) ≡ wanted_switch hand_on (top n stack) st
switch_row hand_on stack n st some l =
    ap (λ call. bind (of_answer (row_switch call (top (n - 1) stack)) st) (λ asked s1. done (run_of hand_on (body_of asked)) s1)) (call_is stack n some l)
    ∙ ap (λ args. bind (of_answer (row_switch (call_word (top n stack)) args) st) (λ asked s1. done (run_of hand_on (body_of asked)) s1)) (arguments_are stack n some l)
