-- What the code of `try` does, by places of the stack.
use Rattle.std.specs.Prelude.{◌≡◌, Bool, true, false, List, [], map, Option, Some, None, Result, Ok, Err}
use Rattle.std.specs.Option.{option_map}
use Rattle.tclv_model.specs.Values.{list_of}
use Rattle.tclv_ctl.specs.declared.handlers.TryPlan.{TryPlan}
use Rattle.tclv_ctl.specs.Handlers.{Handlers, IsTryPlanOf, handler_in, text_in}
use Rattle.tclv_ctl.specs.Switching.{given_words}
use Rattle.tclv_engine.specs.declared.endings.End.{End}
use Rattle.tclv_engine.specs.declared.endings.End.TheVariants as end
use Rattle.tclv_engine.specs.declared.endings.Leaving.{Leaving}
use Rattle.tclv_engine.specs.Answers.{code_of, options_of, last_of}
use Rattle.tclv_engine.specs.State.{Text, State}
use Rattle.tclv_engine.specs.Results.{Res}
use Rattle.tclv_engine.specs.ListAssignment.{IsList}
use Rattle.tclv_engine.specs.Plans.{Wanted, Conclusion}
use Rattle.tclv_control.specs.declared.behind.Behind.{Behind}
use Rattle.tclv_control.specs.TryRows.{at_last, handled_by, outcome}

-- the places of a plan are those of what is said
abbrev pub as_said : List Text → Handlers → TryPlan → List Text → Type 0
as_said stack said plan now = IsTryPlanOf stack said plan

-- what a plan says, over the texts of its places
abbrev pub planned : {W : Type 0} → List Text → TryPlan → Conclusion → (State W) → Res W (Wanted Behind)
planned stack plan e st = handled_by (record { handlers = map (handler_in stack) plan.handlers.items; finally = option_map (text_in stack) plan.finally }) e st

-- the script that runs in the end, which is there
abbrev pub last_wanted : {W : Type 0} → Text → Conclusion → (State W) → Res W (Wanted Behind)
last_wanted script e st = at_last (Some script) e st

-- whether the text is a list
abbrev pub IsListed : Text → Bool → Type 0
IsListed t true = IsList t
IsListed t false = given_words (list_of t) ≡ []

-- how a call that notes ended, as a value; what nothing settles stays
abbrev pub settled_of : Result (Unit {0}) End → Result (Option Leaving) End
settled_of (Ok t) = Ok None
settled_of (Err (end.Left leaving)) = Ok (Some leaving)
settled_of (Err end.Budget) = Err end.Budget
settled_of (Err (end.Exit status)) = Err (end.Exit status)
settled_of (Err end.Device) = Err end.Device
settled_of (Err end.Memory) = Err end.Memory

-- an outcome, whose result is on top
abbrev pub settles : Option Conclusion → Option Leaving → List Text → Type 0
settles None None stack = Unit {0}
settles None (Some l) stack = ⊥
settles (Some e) None stack = ⊥
settles (Some e) (Some l) stack = e ≡ outcome (code_of l) (last_of stack) (options_of l)

-- what a call left, as an outcome with this result
abbrev pub left_of : Option Leaving → Text → Option Conclusion
left_of None text = None
left_of (Some l) text = Some (outcome (code_of l) text (options_of l))
