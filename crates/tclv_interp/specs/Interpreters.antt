-- What contracts see of an interpreter, and what its evaluation of a script answers.
use Rattle.std.specs.Prelude.{◌≡◌, ℕ, ◌+◌, ◌≤◌, Bool, true, false, List, [], ◌++◌, length, slice_index_or, if◌then◌else◌, Some, Result, Ok, Err}
use Rattle.std.specs.FinMap.{empty, get}
use Rattle.tclv_io.specs.World.{World}
use Rattle.tclv_io.specs.Causes.{Rose}
use Rattle.tclv_io.specs.Events.{Event, after_all, partly, next_length}
use Rattle.tclv_model.specs.declared.outcomes.Code.{Code}
use Rattle.tclv_model.specs.declared.outcomes.Code.TheVariants as code
use Rattle.tclv_model.specs.declared.outcomes.Pair.{Pair}
use Rattle.tclv_value.specs.View.{text_at}
use Rattle.tclv_value.specs.declared.places.At.{At}
use Rattle.tclv_vars.specs.Clearing.{outermost, outermost_texts}
use Rattle.tclv_vars.specs.Table.{Table, no_variables, HoldsArray}
use Rattle.tclv_interp.specs.declared.interpreters.Interp.{Interp}
use Rattle.tclv_interp.specs.declared.interpreters.Stop.{Stop}
use Rattle.tclv_interp.specs.declared.interpreters.Stop.TheVariants as stop
use Rattle.tclv_engine.specs.declared.machine.Machine.{Machine}
use Rattle.tclv_engine.specs.Surroundings.{surroundings_of}
use Rattle.tclv_engine.specs.State.{Text, state_of, variables_in, texts_in, with_variables}
use Rattle.tclv_engine.specs.Results.{Ending, Done, Left, Budget, Exit, Outcome, carried}
use Rattle.tclv_engine.specs.declared.endings.Carried.{Carried}
use Rattle.tclv_engine.specs.declared.endings.End.{End}
use Rattle.tclv_engine.specs.declared.endings.End.TheVariants as end
use Rattle.tclv_engine.specs.Evaluation.{text, whole}
use Rattle.tclv_interp.specs.declared.builtins.Tables.{Tables}
use Rattle.tclv_interp.specs.Builtins.{new_tables}
use Rattle.tclv_interp.specs.Commands.{State, Res, shell}
use Rattle.tclv_engine.specs.Answers.{Outer, code_of, options_of, last_of}

-- the state of an interpreter over a world
abbrev pub state_over : Interp → World → State
state_over i w = state_of i.machine w

-- the state of a new interpreter: no variables, and all units
abbrev pub blank : ℕ → World → State
blank budget w = record {
  tables = record { vars = no_variables; texts = empty; own = new_tables };
  surroundings = surroundings_of w;
  events = 0;
  units = budget;
  depth = 0;
}

-- no variable is an array
abbrev pub HasNoArrays : Table → Type 0
HasNoArrays t = (cell : ℕ) → HoldsArray (get t.contents cell) → ⊥

-- the variables of an interpreter
abbrev pub variables_of : Interp → Table
variables_of i = i.machine.values.vars

-- how many events there were
abbrev pub writes_of : Interp → ℕ
writes_of i = i.machine.writes

-- the text of a place
abbrev pub script_at : Interp → At → Text
script_at i at = text_at i.machine.values.store at

-- the result of the last evaluation: empty where there was none, or where it was stopped
abbrev pub result_of : Interp → Text
result_of i = if i.stopped then [] else slice_index_or i.machine.values.store.stack 0 []

-- its options
abbrev pub options_at : Interp → List Pair
options_at i = i.options

-- whether an evaluation was stopped
abbrev pub is_stopped : Interp → Bool
is_stopped i = i.stopped

-- Frames that were left open end, and the global one is current.
abbrev pub at_global : State → State
at_global st = with_variables (outermost (variables_in st)) (outermost_texts (variables_in st) (texts_in st)) st

-- however a computation ended, stopped or not
abbrev pub back_at_global : Res Outcome → Res Outcome
back_at_global r = record { ending = r.ending; after = at_global r.after; events = r.events }

-- a text as a script, from a state
abbrev pub as_script : Text → State → Res Outcome
as_script t st = text (whole shell) t st

-- its evaluation. A stop leaves frames open, since nothing is done behind it; they end here.
abbrev pub evaluation : Text → State → Res Outcome
evaluation t st = back_at_global (as_script t st)

-- ---- what an evaluation answers

-- the ending has this code, result and options
abbrev pub EndsWith : Ending Outcome → Code → Text → List Pair → Type 0
EndsWith (Done o) c text options = (c ≡ code.Ok) × (text ≡ o.text) × (options ≡ o.options)
EndsWith (Left d t os) c text options = (c ≡ d) × (text ≡ t) × (options ≡ os)
EndsWith Budget c text options = ⊥
EndsWith (Exit n) c text options = ⊥

-- All of the computation happened from a world on, and no write failed: the state after is its state, and its events are counted.
pub record Happened (m : Res Outcome) (w : World) (torn events : ℕ) (after : (Machine Tables)) (v : World) (now : ℕ) : Type 0 where
  pub state : m.after ≡ state_of after v
  pub out : v.out ≡ after_all w.out m.events
  pub whole : now ≡ torn
  pub counted : after.writes ≡ events + length m.events

-- The first events of the computation happened, and `part` bytes of the next, which are what a failed write took.
pub record CutShort (m : Res Outcome) (w : World) (torn events part : ℕ) (after : (Machine Tables)) (v : World) (now : ℕ) : Type 0 where
  pub first : List Event
  pub rest : List Event
  pub split : m.events ≡ first ++ rest
  pub out : v.out ≡ partly part (after_all w.out first) rest
  pub within : part ≤ next_length rest
  pub part_is : now ≡ torn + part
  pub counted : after.writes ≡ events + length first

-- what each answer says of the computation; a code comes with a result and options
abbrev pub Says : Res Outcome → World → ℕ → ℕ → Result Code Stop → Text → List Pair → (Machine Tables) → World → ℕ → Type 0
Says m w torn events (Ok c) text options after v now = EndsWith m.ending c text options × Happened m w torn events after v now
Says m w torn events (Err stop.Budget) text options after v now = (m.ending ≡ Budget) × Happened m w torn events after v now
Says m w torn events (Err (stop.Exit n)) text options after v now = (m.ending ≡ Exit n) × Happened m w torn events after v now
Says m w torn events (Err stop.Device) text options after v now = (part : ℕ) × CutShort m w torn events part after v now
Says m w torn events (Err stop.Memory) text options after v now = CutShort m w torn events 0 after v now
Says m w torn events (Err stop.Stopped) text options after v now = ⊥

-- The evaluation answers as the computation says, from a world that was told, and the outside still tells.
pub record Evaluates (m : Res Outcome) (w : World) (torn events : ℕ) (r : Result Code Stop) (text : Text) (options : List Pair) (after : (Machine Tables)) (now : Outer) : Type 0 where
  pub world : World
  pub told : now.told ≡ Some world
  pub says : Says m w torn events r text options after world now.torn

-- the count of faults rose where a device ended the evaluation, and else it stays
abbrev pub StopCause : {T : Type 0} → ℕ → ℕ → Result T Stop → Type 0
StopCause before now (Ok c) = now ≡ before
StopCause before now (Err stop.Budget) = now ≡ before
StopCause before now (Err (stop.Exit n)) = now ≡ before
StopCause before now (Err stop.Device) = (before ≤ now) × Rose before now
StopCause before now (Err stop.Memory) = now ≡ before
StopCause before now (Err stop.Stopped) = now ≡ before

-- A code leaves the interpreter running, and each stop stops it.
abbrev pub StopsAt : {T : Type 0} → Result T Stop → Interp → Type 0
StopsAt (Ok c) after = is_stopped after ≡ false
StopsAt (Err s) after = is_stopped after ≡ true

-- How the answer of an interpreter shows how a script ended: a code with its result, which was the top text, and its options; or the stop. Want of
-- memory may come in place of a code.
abbrev pub Shows : Result Carried End → List Text → Result Code Stop → Text → List Pair → Type 0
Shows (Ok kept) stack (Ok c) text options = (c ≡ code.Ok) × (text ≡ last_of stack) × (options ≡ carried code.Ok kept)
Shows (Ok kept) stack (Err s) text options = s ≡ stop.Memory
Shows (Err (end.Left l)) stack (Ok c) text options = (c ≡ code_of l) × (text ≡ last_of stack) × (options ≡ options_of l)
Shows (Err (end.Left l)) stack (Err s) text options = s ≡ stop.Memory
Shows (Err end.Budget) stack r text options = r ≡ Err stop.Budget
Shows (Err (end.Exit n)) stack r text options = r ≡ Err (stop.Exit n)
Shows (Err end.Device) stack r text options = r ≡ Err stop.Device
Shows (Err end.Memory) stack r text options = r ≡ Err stop.Memory
