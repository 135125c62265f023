-- Frames of variables, in which bodies of procedures and scripts of other levels run.
use Rattle.std.specs.Prelude.{◌≡◌, ℕ, ◌+◌, Bool, true, false, List, [], ◌∷◌, length, map, drop, if◌then◌else◌, codes}
use Rattle.tclv_value.specs.declared.procedures.Param.{Param}
use Rattle.tclv_value.specs.Procedures.{Procedure}
use Rattle.tclv_vars.specs.Scoping.{at_level}
use Rattle.tclv_vars.specs.Table.{begun, at_scopes}
use Rattle.tclv_vars.specs.Clearing.{back_in, left_behind}
use Rattle.tclv_engine.specs.declared.machine.Machine.{Machine}
use Rattle.tclv_engine.specs.State.{Text, State, variables_in, texts_in, with_variables}
use Rattle.tclv_engine.specs.Results.{Res, Outcome, bind}
use Rattle.tclv_engine.specs.ListAssignment.{assign_each}

-- ---- back to an earlier frame

-- The frames behind the first `count` end, and then this one is current, where it is there.
abbrev pub in_frame : {W : Type 0} → ℕ → ℕ → State W → State W
in_frame count frame st = with_variables (back_in count frame (variables_in st)) (left_behind count (variables_in st) (texts_in st)) st

abbrev pub back_from : {W : Type 0} → ℕ → ℕ → Res W Outcome → Res W Outcome
back_from count frame r = record { ending = r.ending; after = in_frame count frame r.after; events = r.events }

-- However it ends: the frames that it pushed end, and the frame is current that was before.
abbrev pub framed : {W : Type 0} → (State W → Res W Outcome) → State W → Res W Outcome
framed body st = back_from (length (variables_in st).scopes.frames) (variables_in st).scopes.current (body st)

-- ---- into a frame

-- Of the current frame and those that called it, the one of this level is current. Above the current level there is none.
abbrev pub level_current : {W : Type 0} → ℕ → State W → State W
level_current level st = with_variables (at_scopes (variables_in st) (at_level (variables_in st).scopes level)) (texts_in st) st

-- A new local frame of the global namespace is current.
abbrev pub new_frame : {W : Type 0} → State W → State W
new_frame st = with_variables (begun (variables_in st) 0 true) (texts_in st) st

-- how many texts a procedure takes
abbrev pub text_count : Procedure → ℕ
text_count d = length d.params + (if d.rest then 1 else 0)

-- the names of the parameters
abbrev pub names_of : List Param → List Text
names_of ps = map (λ (p : Param). p.name) ps

-- the name of a last parameter that takes the words that are left
abbrev pub rest_name : Bool → List Text
rest_name true = codes "args" ∷ []
rest_name false = []

-- The parameters of a procedure get texts, from the left.
abbrev pub with_arguments : {W : Type 0} → Procedure → List Text → State W → Res W (Unit {0})
with_arguments d texts st = bind (assign_each (names_of d.params) texts st) (λ u s1. assign_each (rest_name d.rest) (drop (length d.params) texts) s1)

-- They do so in a new frame.
abbrev pub entered : {W : Type 0} → Procedure → List Text → State W → Res W (Unit {0})
entered d texts st = with_arguments d texts (new_frame st)

-- ---- in the code

-- The frames behind the first `count` ended, and the frame is current, if it is there; nothing else changed.
pub record Restored {W : Type 0} (count frame : ℕ) (old new : Machine W) : Type 0 where
  pub vars : new.values.vars ≡ back_in count frame old.values.vars
  pub cells : new.values.store.cells ≡ left_behind count old.values.vars old.values.store.cells
  pub stack : new.values.store.stack ≡ old.values.store.stack
  pub own : new.own ≡ old.own
  pub units : new.units ≡ old.units
  pub depth : new.depth ≡ old.depth
  pub events : new.writes ≡ old.writes
