-- The rows of `set`, `incr` and `append`.
use Rattle.std.specs.Prelude.{ℕ, ◌^◌, Bool, true, false, nat_lt, if◌then◌else◌, List, [], ◌∷◌, ◌++◌, Result, Ok, Err, ℤ, pos, negsuc, ◌+ℤ◌, codes}
use Rattle.std.specs.List.{concat}
use Rattle.tclv_text.specs.Numbers.{whole_text}
use Rattle.tclv_vars.specs.declared.faults.VarFault.{VarFault}
use Rattle.tclv_vars.specs.declared.faults.VarFault.TheVariants as fault
use Rattle.tclv_vars.specs.Table.{Table}
use Rattle.tclv_model.specs.declared.messages.MessageId.TheVariants.{IntegerTooLarge}
use Rattle.tclv_model.specs.declared.error_codes.ErrorCode.TheVariants.{Overflow}
use Rattle.tclv_model.specs.declared.usages.Usage.TheVariants as command
use Rattle.tclv_model.specs.Usages.{usage_of}
use Rattle.tclv_engine.specs.State.{Text, State, variables_in}
use Rattle.tclv_engine.specs.Results.{Res, Outcome, bind, done, ok, raise}
use Rattle.tclv_reply.specs.Names.{naming}
use Rattle.tclv_engine.specs.Names.{bytes_of, read_named}
use Rattle.tclv_engine.specs.Variables.{is_unbuilt, variable, assign}
use Rattle.tclv_engine.specs.Usages.{usage}
use Rattle.tclv_engine.specs.WholeNumbers.{whole_number}

-- ---- variables that may be unset

-- There is no value, since the variable isn't set, or the element of an array isn't. (A whole array isn't unset.)
abbrev pub lacks_value : Result ℕ VarFault → Bool
lacks_value (Ok cell) = false
lacks_value (Err fault.NoVariable) = true
lacks_value (Err fault.NoElement) = true
lacks_value (Err f) = false

-- The variable of this name is unset. A name that isn't built yet is none of a variable.
abbrev pub is_unset : Text → Table → Bool
is_unset name vars = if is_unbuilt (bytes_of name) then false else lacks_value (read_named vars (naming (bytes_of name)))

-- The value of the variable of this name, and `instead` where it is unset.
abbrev pub variable_or : {W : Type 0} → Text → Text → (State W) → Res W Text
variable_or instead name st = if is_unset name (variables_in st) then done instead st else variable name st

-- The variable of this name is set to a text, which is the result.
abbrev pub assign_result : {W : Type 0} → Text → Text → (State W) → Res W Outcome
assign_result name value st = bind (assign name value st) ok

-- ---- set

-- `set varName ?newValue?`: with a value the variable has it from then on. The result is the variable's value.
abbrev pub row_set : {W : Type 0} → List Text → (State W) → Res W Outcome
row_set (word ∷ name ∷ []) st = bind (variable name st) ok
row_set (word ∷ name ∷ value ∷ []) st = assign_result name value st
row_set words st = usage (usage_of command.Set) words st

-- ---- incr

-- from -2^63 to 2^63-1
unfoldable pub fits : ℤ → Bool
fits (pos n) = nat_lt n (2 ^ 63)
fits (negsuc n) = nat_lt n (2 ^ 63)

-- The variable of this name is set to the decimal text of a sum, which must be a number of 64 bits.
abbrev pub assign_sum : {W : Type 0} → Text → ℤ → (State W) → Res W Outcome
assign_sum name sum st = if fits sum then assign_result name (whole_text sum) st else raise IntegerTooLarge [] [] Overflow st

-- The sum of the number that a text is, and an increment.
abbrev pub increase_from : {W : Type 0} → Text → ℤ → Text → (State W) → Res W Outcome
increase_from name increment text st = bind (whole_number text st) (λ n s1. assign_sum name (n +ℤ increment) s1)

-- The variable's number is increased; an unset variable counts as 0.
abbrev pub increase : {W : Type 0} → Text → ℤ → (State W) → Res W Outcome
increase name increment st = bind (variable_or (codes "0") name st) (λ text s1. increase_from name increment text s1)

-- The increment is looked at before the variable.
abbrev pub increase_by : {W : Type 0} → Text → Text → (State W) → Res W Outcome
increase_by name increment st = bind (whole_number increment st) (λ n s1. increase name n s1)

-- `incr varName ?increment?`: the variable is set to the sum of its number and the increment, which is 1 where there is none. The
-- result is the variable's value.
abbrev pub row_incr : {W : Type 0} → List Text → (State W) → Res W Outcome
row_incr (word ∷ name ∷ []) st = increase name (pos 1) st
row_incr (word ∷ name ∷ increment ∷ []) st = increase_by name increment st
row_incr words st = usage (usage_of command.Incr) words st

-- ---- append

-- The variable's text with these behind it, in order; an unset variable counts as empty.
abbrev pub append_all : {W : Type 0} → Text → List Text → (State W) → Res W Outcome
append_all name values st = bind (variable_or [] name st) (λ text s1. assign_result name (text ++ concat values) s1)

-- `append varName ?value ...?`: the variable is set to its text with the values behind it. Without values it is only read. The result
-- is the variable's value.
abbrev pub row_append : {W : Type 0} → List Text → (State W) → Res W Outcome
row_append (word ∷ name ∷ []) st = bind (variable name st) ok
row_append (word ∷ name ∷ value ∷ values) st = append_all name (value ∷ values) st
row_append words st = usage (usage_of command.Append) words st
