-- Loops: how a body ends a turn, and turns one after another.
use Rattle.std.specs.Prelude.{◌≡◌, ℕ, zero, suc, ◌+◌, ◌-◌, ◌<◌, Bool, true, false, if◌then◌else◌, List, length, take, Result, Ok, Err}
use Rattle.tclv_parse.specs.declared.tree.Script.{Script}
use Rattle.tclv_model.specs.declared.outcomes.Code.TheVariants as code
use Rattle.tclv_engine.specs.declared.endings.Carried.{Carried}
use Rattle.tclv_engine.specs.declared.endings.Leaving.TheVariants.{Other}
use Rattle.tclv_engine.specs.declared.endings.End.{End}
use Rattle.tclv_engine.specs.declared.endings.End.TheVariants as end
use Rattle.tclv_engine.specs.declared.loops.BodyEnd.{BodyEnd}
use Rattle.tclv_engine.specs.declared.loops.BodyEnd.TheVariants as body_end
use Rattle.tclv_engine.specs.State.{Text, State}
use Rattle.tclv_engine.specs.Results.{Ending, Done, Left, Budget, Exit, Res, Outcome, ends, done, bind}
use Rattle.tclv_engine.specs.Units.{take_unit}
use Rattle.tclv_engine.specs.Answers.{Over, last_of}
use Rattle.tclv_engine.specs.Words.{Evaluator}

-- ---- bodies

-- How a body ended, for the loop around it: with a result; so that the next turn comes; or so that the loop ends.
pub data Turn : Type 0 where
  Gave : Text → Turn
  Skipped : Turn
  Broke : Turn

-- Break and continue are the loop's; other codes pass on.
abbrev pub turn_ending : Ending Outcome → Ending Turn
turn_ending (Done o) = Done (Gave o.text)
turn_ending (Left code.Break text options) = Done Broke
turn_ending (Left code.Continue text options) = Done Skipped
turn_ending (Left c text options) = Left c text options
turn_ending Budget = Budget
turn_ending (Exit n) = Exit n

-- The script of a body is evaluated.
abbrev pub body : {W : Type 0} → (Evaluator W) → Script → (State W) → Res W Turn
body ev s st = let r = ev.script s st in record { ending = turn_ending r.ending; after = r.after; events = r.events }

-- only break ends a loop
abbrev pub goes_on : Turn → Bool
goes_on (Gave text) = true
goes_on Skipped = true
goes_on Broke = false

-- A turn that is to come takes a unit, and then runs the body. Whether another turn follows.
abbrev pub paid_body : {W : Type 0} → (Evaluator W) → Script → (State W) → Res W Bool
paid_body ev s st = bind (take_unit st) (λ u s1. bind (body ev s s1) (λ t s2. done (goes_on t) s2))

-- ---- scripts between turns

-- Break ends the loop; other codes pass on, continue too.
abbrev pub between_ending : Ending Outcome → Ending Bool
between_ending (Done o) = Done true
between_ending (Left code.Break text options) = Done false
between_ending (Left c text options) = Left c text options
between_ending Budget = Budget
between_ending (Exit n) = Exit n

-- A script between two turns is evaluated. Whether the loop goes on.
abbrev pub between_turns : {W : Type 0} → (Evaluator W) → Script → (State W) → Res W Bool
between_turns ev s st = let r = ev.script s st in record { ending = between_ending r.ending; after = r.after; events = r.events }

-- ---- turns

-- Turns one after another, as long as each says that another follows; so many at most.
unfoldable pub turns : {W : Type 0} → ℕ → ((State W) → Res W Bool) → (State W) → Res W (Unit {0})
turns zero turn st = ends Budget st
turns (suc n) turn st = bind (turn st) (λ more s1. if more then turns n turn s1 else done tt s1)

-- All turns of a loop. Each that says that another follows has taken a unit, so there are at most as many as units, and one.
abbrev pub loop : {W : Type 0} → ((State W) → Res W Bool) → (State W) → Res W (Unit {0})
loop turn st = turns (st.units + 1) turn st

-- ---- how a body's ending shows in the code

-- the result of a body is the top text
abbrev pub as_turn : Turn → BodyEnd → List Text → Type 0
as_turn (Gave text) body_end.Gave stack = last_of stack ≡ text
as_turn Skipped body_end.Skipped stack = Unit {0}
as_turn Broke body_end.Broke stack = Unit {0}
as_turn _ _ stack = ⊥

-- and no other text is left of it
abbrev pub TurnLeaves : List Text → BodyEnd → List Text → Type 0
TurnLeaves base body_end.Gave stack = Over 1 base stack
TurnLeaves base body_end.Skipped stack = stack ≡ base
TurnLeaves base body_end.Broke stack = stack ≡ base

-- the end of a body, by how its script ended
abbrev pub body_end_of : Result Carried End → Result BodyEnd End
body_end_of (Ok kept) = Ok body_end.Gave
body_end_of (Err (end.Left (Other code.Break options))) = Ok body_end.Broke
body_end_of (Err (end.Left (Other code.Continue options))) = Ok body_end.Skipped
body_end_of (Err e) = Err e

-- The stack is cut back to a height where the loop takes the code.
abbrev pub cut_back : Result Carried End → ℕ → List Text → List Text
cut_back (Err (end.Left (Other code.Break options))) height stack = take height stack
cut_back (Err (end.Left (Other code.Continue options))) height stack = take height stack
cut_back r height stack = stack

-- how a loop goes on behind a body, and the stack without the body's result
abbrev pub more_after : BodyEnd → Bool
more_after body_end.Gave = true
more_after body_end.Skipped = true
more_after body_end.Broke = false

abbrev pub without_result : BodyEnd → List Text → List Text
without_result body_end.Gave stack = take (length stack - 1) stack
without_result e stack = stack

-- the result is there
abbrev pub HasBodyResult : BodyEnd → List Text → Type 0
HasBodyResult body_end.Gave stack = 0 < length stack
HasBodyResult e stack = Unit {0}

-- the end of a script between turns, by how it ended; nothing of it is left on the stack where the loop takes its end
abbrev pub between_end_of : Result Carried End → Result Bool End
between_end_of (Ok kept) = Ok true
between_end_of (Err (end.Left (Other code.Break options))) = Ok false
between_end_of (Err e) = Err e

abbrev pub cut_between : Result Carried End → ℕ → List Text → List Text
cut_between (Ok kept) height stack = take height stack
cut_between (Err (end.Left (Other code.Break options))) height stack = take height stack
cut_between r height stack = stack
