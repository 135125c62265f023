-- What a command wants done. A command evaluates nothing: it looks at its words and the state and says what it wants, and the evaluation does it.
use Rattle.std.specs.Prelude.{◌≡◌, ℕ, ◌<◌, ◌≤◌, Bool, List, [], length, map, slice_index_or, Option, Some, None, Result, Ok, Err}
use Rattle.std.specs.List.{All}
use Rattle.tclv_model.specs.declared.outcomes.Code.{Code}
use Rattle.tclv_model.specs.declared.outcomes.Code.TheVariants as code
use Rattle.tclv_model.specs.declared.outcomes.Pair.{Pair}
use Rattle.tclv_model.specs.declared.messages.MessageId.{MessageId}
use Rattle.tclv_engine.specs.declared.endings.Carried.{Carried}
use Rattle.tclv_engine.specs.declared.endings.End.{End}
use Rattle.tclv_engine.specs.declared.endings.End.TheVariants as end
use Rattle.tclv_engine.specs.declared.endings.Ended.{Ended}
use Rattle.tclv_engine.specs.declared.endings.Ended.TheVariants as ended
use Rattle.tclv_engine.specs.declared.plans.Plan.{Plan}
use Rattle.tclv_engine.specs.declared.plans.Plan.TheVariants as plan
use Rattle.tclv_engine.specs.declared.plans.Branch.{Branch}
use Rattle.tclv_engine.specs.declared.plans.Branches.{Branches}
use Rattle.tclv_engine.specs.declared.plans.Way.{Way}
use Rattle.tclv_engine.specs.declared.plans.Way.TheVariants as way
use Rattle.tclv_engine.specs.declared.plans.Inner.{Inner as RunOf}
use Rattle.tclv_engine.specs.declared.plans.Inner.TheVariants as ran
use Rattle.tclv_engine.specs.State.{Text}
use Rattle.tclv_engine.specs.Frames.{text_count}
use Rattle.tclv_value.specs.Procedures.{Procedure}
use Rattle.tclv_value.specs.Stacks.{top}
use Rattle.tclv_engine.specs.Results.{Outcome, carried}
use Rattle.tclv_engine.specs.Answers.{Above, Keeps, code_of, options_of, last_of}
use Rattle.tclv_engine.specs.declared.each_groups.Group.{Group as PlacedGroup}
use Rattle.tclv_engine.specs.EachLoops.{Group}
use Rattle.tclv_engine.specs.EachSteps.{GroupInside, groups_at}

-- ---- what is wanted

-- What a test leads to that is true: a script; an error with a message, whose first part may be a text; or nothing.
pub data Lead : Type 0 where
  Script : Text → Lead
  Refused : MessageId → Text → Lead
  Nothing : Lead

-- a test, and what it leads to
pub record Alternative : Type 0 where
  pub test : Text
  pub lead : Lead

-- What is run that something stands behind: a script; the body of a procedure, whose parameters get these texts; or a script in the frame of a
-- level.
pub data Inner : Type 0 where
  Here : Text → Inner
  Body : Procedure → List Text → Inner
  There : ℕ → Text → Inner

-- Nothing more, since the outcome is there; a script, and then what stands behind it, however the script ended; a procedure with the texts of
-- its parameters, and what stands behind its body; a script in the frame of a level, and what stands behind it; the value of an expression; what
-- the first true test of several leads to, or the last lead; a loop with a test and a body; one with a start, a test, a script between turns and
-- a body; or a loop over lists, with its groups and its body, whose results are kept or not. K is what can stand behind a script.
pub data Wanted (K : Type 0) : Type 0 where
  Finished : Outcome → Wanted K
  Run : Text → K → Wanted K
  Called : Procedure → List Text → K → Wanted K
  AtLevel : ℕ → Text → K → Wanted K
  Value : Text → Wanted K
  Choice : List Alternative → Lead → Wanted K
  Tested : Text → Text → Wanted K
  Started : Text → Text → Text → Text → Wanted K
  Each : List Group → Text → Bool → Wanted K

-- How a script ended that nothing stopped: its code, its result and its options.
pub record Conclusion : Type 0 where
  pub code : Code
  pub text : Text
  pub options : List Pair

-- ---- in the code: texts by their places on the stack

abbrev pub placed : List Text → ℕ → Text
placed stack at = slice_index_or stack at []

abbrev pub placed_or_none : List Text → Option ℕ → Text
placed_or_none stack None = []
placed_or_none stack (Some at) = placed stack at

abbrev pub lead_of : List Text → Way → Lead
lead_of stack (way.Body at) = Script (placed stack at)
lead_of stack (way.Refused kind first) = Refused kind (placed_or_none stack first)
lead_of stack way.Nothing = Nothing

abbrev pub alternative_of : List Text → Branch → Alternative
alternative_of stack b = record { test = placed stack b.test; lead = lead_of stack b.way }

abbrev pub alternatives_of : List Text → List Branch → List Alternative
alternatives_of stack branches = map (alternative_of stack) branches

-- what a plan wants, whose texts stand on the stack; the result of one that is finished is on top
abbrev pub wanted_of : {K : Type 0} → Plan K → List Text → Wanted K
wanted_of (plan.Finished kept) stack = Finished (record { text = last_of stack; options = carried code.Ok kept })
wanted_of (plan.Run at behind) stack = Run (placed stack at) behind
wanted_of (plan.Called def behind) stack = Called def.value (top (text_count def.value) stack) behind
wanted_of (plan.AtLevel level at behind) stack = AtLevel level (placed stack at) behind
wanted_of (plan.Value at) stack = Value (placed stack at)
wanted_of (plan.Choice branches) stack = Choice (alternatives_of stack branches.items.items) (lead_of stack branches.last)
wanted_of (plan.Tested test body) stack = Tested (placed stack test) (placed stack body)
wanted_of (plan.Started start test next body) stack = Started (placed stack start) (placed stack test) (placed stack next) (placed stack body)
wanted_of (plan.Each groups body keep) stack = Each (groups_at stack groups.items.items) (placed stack body) keep

-- what is run of a plan
abbrev pub inner_of : List Text → RunOf → Inner
inner_of stack (ran.Script at) = Here (placed stack at)
inner_of stack (ran.Body def) = Body def.value (top (text_count def.value) stack)
inner_of stack (ran.AtLevel level at) = There level (placed stack at)

-- the call returns a plan that wants this
abbrev pub as_plan : {K : Type 0} → Wanted K → Plan K → List Text → Type 0
as_plan wanted p stack = wanted ≡ wanted_of p stack

-- how a script ended whose result is this text
abbrev pub concluded : Ended → Text → Conclusion
concluded (ended.Ok kept) text = record { code = code.Ok; text = text; options = carried code.Ok kept }
concluded (ended.Left leaving) text = record { code = code_of leaving; text = text; options = options_of leaving }

-- the end of a call, as the end of a script; a stop stays
abbrev pub ended_of : Result Carried End → Result Ended End
ended_of (Ok kept) = Ok (ended.Ok kept)
ended_of (Err (end.Left leaving)) = Ok (ended.Left leaving)
ended_of (Err end.Budget) = Err end.Budget
ended_of (Err (end.Exit status)) = Err (end.Exit status)
ended_of (Err end.Device) = Err end.Device
ended_of (Err end.Memory) = Err end.Memory

-- ---- the places are there

abbrev pub WayInside : List Text → Way → Type 0
WayInside stack (way.Body at) = at < length stack
WayInside stack (way.Refused kind None) = Unit {0}
WayInside stack (way.Refused kind (Some at)) = at < length stack
WayInside stack way.Nothing = Unit {0}

abbrev pub InnerInside : List Text → RunOf → Type 0
InnerInside stack (ran.Script at) = at < length stack
InnerInside stack (ran.Body def) = text_count def.value ≤ length stack
InnerInside stack (ran.AtLevel level at) = at < length stack

pub record BranchInside (stack : List Text) (b : Branch) : Type 0 where
  pub test : b.test < length stack
  pub way : WayInside stack b.way

pub record BranchesInside (stack : List Text) (b : Branches) : Type 0 where
  pub items : All (BranchInside stack) b.items.items
  pub last : WayInside stack b.last

pub record StartedInside (stack : List Text) (start test next body : ℕ) : Type 0 where
  pub start_in : start < length stack
  pub test_in : test < length stack
  pub next_in : next < length stack
  pub body_in : body < length stack

pub record EachInside (stack : List Text) (groups : List PlacedGroup) (body : ℕ) : Type 0 where
  pub groups_in : All (GroupInside stack) groups
  pub body_in : body < length stack

-- The texts of a plan stand on the stack, which keeps its base; over the base lies the result of one that is finished.
abbrev pub PlanOver : {K : Type 0} → List Text → Plan K → List Text → Type 0
PlanOver base (plan.Finished kept) stack = Above base stack
PlanOver base (plan.Run at behind) stack = Keeps base stack × (at < length stack)
PlanOver base (plan.Called def behind) stack = Keeps base stack × (text_count def.value ≤ length stack)
PlanOver base (plan.AtLevel level at behind) stack = Keeps base stack × (at < length stack)
PlanOver base (plan.Value at) stack = Keeps base stack × (at < length stack)
PlanOver base (plan.Choice branches) stack = Keeps base stack × BranchesInside stack branches
PlanOver base (plan.Tested test body) stack = Keeps base stack × ((test < length stack) × (body < length stack))
PlanOver base (plan.Started start test next body) stack = Keeps base stack × StartedInside stack start test next body
PlanOver base (plan.Each groups body keep) stack = Keeps base stack × EachInside stack groups.items.items body
