-- What a reader gives: a value and the text behind it, or the first fault.
use Rattle.std.specs.Prelude.{◌≡◌, ℕ, List, ◌++◌, Result, Ok, Err}
use Rattle.tclv_parse.specs.declared.faults.ParseFault.{ParseFault}
use Rattle.tclv_parse.specs.declared.faults.ParseFault.TheVariants as parse
use Rattle.tclv_parse.specs.Runs.{Text}
use Rattle.tclv_parse.specs.Readings.{End}
use Rattle.tclv_parse.specs.declared.stops.Stop as parse_stop
use Rattle.tclv_parse.specs.declared.stops.Stop.TheVariants as parse_stops
use Rattle.tclv_exprp.specs.declared.faults.Fault.{Fault}
use Rattle.tclv_exprp.specs.declared.faults.Fault.TheVariants as f
use Rattle.tclv_exprp.specs.declared.faults.Stop.{Stop}
use Rattle.tclv_exprp.specs.declared.faults.Stop.TheVariants as stop
use Rattle.tclv_exprp.specs.declared.faults.ExprFault.{ExprFault}
use Rattle.tclv_exprp.specs.declared.faults.ExprFault.TheVariants as e

abbrev pub Outcome : Type 0 → Type 0
Outcome A = Result (A × Text) Fault

abbrev pub Parser : Type 0 → Type 0
Parser A = Text → Outcome A

-- first the one, and then what f reads behind it
abbrev pub and_then : {A B : Type 0} → Outcome A → (A → Parser B) → Outcome B
and_then (Ok p) f = f p.0 p.1
and_then (Err e) f = Err e

-- these items, and then those of the outcome
abbrev pub after : {A : Type 0} → List A → Outcome (List A) → Outcome (List A)
after xs (Ok p) = Ok (xs ++ p.0, p.1)
after xs (Err e) = Err e

-- A fault of a script inside a leaf is a syntax fault at the leaf's first byte, but nesting too deep stays what it is.
abbrev pub leaf_fault : ℕ → ParseFault → Fault
leaf_fault at parse.TooDeep = f.TooDeep
leaf_fault at _ = f.Syntax at

-- what the rules of scripts read of a leaf that begins at this byte
abbrev pub leaf : {A : Type 0} → ℕ → End A → Outcome A
leaf at (Ok p) = Ok p
leaf at (Err e) = Err (leaf_fault at e)

-- the same where memory may run out
abbrev pub leaf_stop : ℕ → parse_stop.Stop → Stop
leaf_stop at (parse_stops.Fault e) = stop.Fault (leaf_fault at e)
leaf_stop at parse_stops.NoMemory = stop.NoMemory

-- ---- answers

-- Unless memory runs out, a function that reads answers with the value and stands behind it, or with the fault.
abbrev pub Reads : {A : Type 0} → Outcome A → Result A Stop → Text → Type 0
Reads outcome (Ok a) new = outcome ≡ Ok (a, new)
Reads outcome (Err (stop.Fault e)) new = outcome ≡ Err e
Reads outcome (Err stop.NoMemory) new = Unit {0}

-- a reader that meets a fault answers with it, unless memory runs out
abbrev pub StopsAt : {A : Type 0} → Outcome A → Stop → Type 0
StopsAt outcome (stop.Fault e) = outcome ≡ Err e
StopsAt outcome stop.NoMemory = Unit {0}

-- a fault as callers see it
abbrev pub expr_fault : Fault → ExprFault
expr_fault (f.Syntax at) = e.Syntax at
expr_fault (f.Bareword at len) = e.Bareword at len
expr_fault (f.UnknownFunction at len) = e.UnknownFunction at len
expr_fault (f.WrongCount at len) = e.WrongCount at len
expr_fault (f.FloatLiteral at len) = e.FloatLiteral at len
expr_fault f.TooLarge = e.TooLarge
expr_fault f.TooDeep = e.TooDeep

abbrev pub stop_fault : Stop → ExprFault
stop_fault (stop.Fault e) = expr_fault e
stop_fault stop.NoMemory = e.NoMemory
