-- What the steps of the code that reads the words of `if` keep, by places of the stack.
use Rattle.std.specs.Prelude.{◌≡◌, ℕ, suc, ◌+◌, ◌<◌, List, [], ◌∷◌, drop, length, map}
use Rattle.tclv_engine.specs.declared.plans.Branch.{Branch}
use Rattle.tclv_engine.specs.declared.plans.Branches.{Branches}
use Rattle.tclv_engine.specs.declared.plans.Way.{Way}
use Rattle.tclv_engine.specs.State.{Text}
use Rattle.tclv_engine.specs.Plans.{WayInside, placed, lead_of, alternative_of}
use Rattle.tclv_control.specs.declared.if_plans.Found.{Found}
use Rattle.tclv_control.specs.declared.if_plans.Found.TheVariants as found
use Rattle.tclv_control.specs.declared.if_plans.Behind.{Behind}
use Rattle.tclv_control.specs.declared.if_plans.Behind.TheVariants as behind
use Rattle.tclv_control.specs.IfRows.{Body, Clauses, Missing, Sought, behind_test, clauses, leads, only, preceded}

-- what stands behind a word, by places of the stack
abbrev pub sought_of : List Text → Found → Sought
sought_of stack (found.Body at) = Body (placed stack at) (drop (at + 1) stack)
sought_of stack (found.Missing at) = Missing (placed stack at)

-- the place is there
abbrev pub FoundInside : List Text → Found → Type 0
FoundInside stack (found.Body at) = at < length stack
FoundInside stack (found.Missing at) = at < length stack

-- the clauses that the code read
abbrev pub clauses_of : List Text → Branches → Clauses
clauses_of stack branches = record { alternatives = map (alternative_of stack) branches.items.items; last = lead_of stack branches.last }

-- the clauses that are left, which are at most n
abbrev pub left_of : ℕ → List Text → Behind → Clauses
left_of n stack (behind.Another at) = clauses n (placed stack at) (drop (at + 1) stack)
left_of n stack (behind.Last way) = only (lead_of stack way)

-- What a test leads to, and what is left behind it, are those of what stands behind the test.
abbrev pub IsLed : List Text → Found → Way × Behind → Type 0
IsLed stack found led =
    (n : ℕ) (test : Text) → preceded (leads test (lead_of stack led.0) ∷ []) (left_of n stack led.1) ≡ behind_test (clauses n) test (sought_of stack found)

-- the branches so far, and the clauses that are left behind them
abbrev pub with_left : ℕ → List Text → List Branch → Behind → Clauses
with_left n stack items b = preceded (map (alternative_of stack) items) (left_of n stack b)

-- The clause behind a word was read, and what is left stands behind it.
abbrev pub IsRead : List Text → ℕ → List Branch → List Branch → Behind → Type 0
IsRead stack word before items b = (n : ℕ) → with_left (suc n) stack before (behind.Another word) ≡ with_left n stack items b

-- the places are there
abbrev pub BehindInside : List Text → Behind → Type 0
BehindInside stack (behind.Another at) = at < length stack
BehindInside stack (behind.Last way) = WayInside stack way
