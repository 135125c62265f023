-- The outcome of a procedure, by how its body ended.
use Rattle.std.specs.Prelude.{ℕ, zero, suc, if◌then◌else◌, List, [], ◌∷◌, map, Option, Some, None, Result, Ok, Err, ℤ, pos, negsuc, codes}
use Rattle.std.specs.Option.{option_map_or}
use Rattle.std.specs.Str.{bytes_eq}
use Rattle.tclv_text.specs.declared.numbers.WholeFault.{WholeFault}
use Rattle.tclv_text.specs.Numbers.{whole, whole_text}
use Rattle.tclv_model.specs.declared.outcomes.Code.{Code}
use Rattle.tclv_model.specs.declared.outcomes.Code.TheVariants as code
use Rattle.tclv_model.specs.declared.outcomes.Pair.{Pair}
use Rattle.tclv_model.specs.declared.messages.MessageId.TheVariants as message
use Rattle.tclv_model.specs.declared.error_codes.ErrorCode.TheVariants.{NoCode}
use Rattle.tclv_ctl.specs.Codes.{numbered_by}
use Rattle.tclv_engine.specs.State.{Text, State}
use Rattle.tclv_engine.specs.Results.{Res, done, option, plain, raise}
use Rattle.tclv_engine.specs.Plans.{Conclusion, Wanted, Finished}
use Rattle.tclv_control.specs.HandingOn.{hand_on}

-- ---- options

-- the value of the first option of a key
abbrev pub value_of : Text → List Pair → Option Text
value_of key [] = None
value_of key (p ∷ ps) = if bytes_eq p.key key then Some p.value else value_of key ps

-- a number from 0 on; what is none counts as 0
abbrev pub natural_by : Result ℤ WholeFault → ℕ
natural_by (Ok (pos n)) = n
natural_by (Ok (negsuc n)) = 0
natural_by (Err fault) = 0

-- the level of a return
abbrev pub level_of : List Pair → ℕ
level_of options = option_map_or (λ v. natural_by (whole v)) (value_of (codes "-level") options) 0

abbrev pub code_or_ok : Option Code → Code
code_or_ok (Some c) = c
code_or_ok None = code.Ok

-- the code that a return stores
abbrev pub stored_code : List Pair → Code
stored_code options = option_map_or (λ v. code_or_ok (numbered_by (whole v))) (value_of (codes "-code") options) code.Ok

-- the options with this level
abbrev pub at_level : Text → Pair → Pair
at_level level p = if bytes_eq p.key (codes "-level") then option p.key level else p

abbrev pub with_level : ℕ → List Pair → List Pair
with_level n options = map (at_level (whole_text (pos n))) options

-- ---- outcomes

-- a code with these options, at a level
abbrev pub lowered : {W K : Type 0} → ℕ → Code → Text → List Pair → State W → Res W (Wanted K)
lowered n c text options st = hand_on c text (with_level n options) st

-- A return of a level above 1 stays one, of one level less. At level 1 the code that it stores is the outcome's. One of level 0 ends the
-- procedure, and stores nothing.
abbrev pub returned_from : {W K : Type 0} → ℕ → Text → List Pair → State W → Res W (Wanted K)
returned_from zero text options st = done (Finished (plain text)) st
returned_from (suc zero) text options st = lowered 0 (stored_code options) text options st
returned_from (suc (suc n)) text options st = lowered (suc n) code.Return text options st

abbrev pub returned : {W K : Type 0} → Text → List Pair → State W → Res W (Wanted K)
returned text options st = returned_from (level_of options) text options st

-- No loop is broken or continued from inside a procedure. All else is handed on.
abbrev pub leveled : {W K : Type 0} → Code → Text → List Pair → State W → Res W (Wanted K)
leveled code.Ok text options st = hand_on code.Ok text options st
leveled code.Error text options st = hand_on code.Error text options st
leveled code.Return text options st = returned text options st
leveled code.Break text options st = raise message.BreakOutsideLoop [] [] NoCode st
leveled code.Continue text options st = raise message.ContinueOutsideLoop [] [] NoCode st
leveled (code.Other n) text options st = hand_on (code.Other n) text options st

-- the outcome of a procedure whose body ended so
abbrev pub outcome_of : {W K : Type 0} → Conclusion → State W → Res W (Wanted K)
outcome_of e st = leveled e.code e.text e.options st
