-- The codes of errors, one line a code. A code is a list, so that a script can look at its words.
use Rattle.std.specs.Prelude.{ℕ, Bool, true, false, if◌then◌else◌, List, [], ◌∷◌, ◌++◌, codes}
use Rattle.tclv_text.specs.Quotes.{quoted}
use Rattle.tclv_model.specs.declared.error_codes.ErrorCode.{ErrorCode}
use Rattle.tclv_model.specs.declared.error_codes.ErrorCode.TheVariants.{NoCode, WrongArguments, UnknownCommand, UnknownVariable, NotNumber, Overflow, DivideByZero, ZeroToNegativePower}

-- what the text of a code begins with: all of it, but for those that end with a name
abbrev pub code_front : ErrorCode → List ℕ
code_front NoCode = codes "NONE"
code_front WrongArguments = codes "TCL WRONGARGS"
code_front UnknownCommand = codes "TCL LOOKUP COMMAND "
code_front UnknownVariable = codes "TCL LOOKUP VARNAME "
code_front NotNumber = codes "TCL VALUE NUMBER"
code_front Overflow = codes "ARITH IOVERFLOW {integer value too large to represent}"
code_front DivideByZero = codes "ARITH DIVZERO {divide by zero}"
code_front ZeroToNegativePower = codes "ARITH DOMAIN {exponentiation of zero by negative power}"

-- whether the code ends with the name of what the error is about
abbrev pub is_naming : ErrorCode → Bool
is_naming UnknownCommand = true
is_naming UnknownVariable = true
is_naming _ = false

-- the text of an error code
abbrev pub error_code : ErrorCode → List ℕ → List ℕ
error_code errorcode name = if is_naming errorcode then code_front errorcode ++ quoted name false else code_front errorcode

-- Its words: the law `error_codes_are_lists` says that the text is the canonical one of the list of these.
abbrev pub code_words : ErrorCode → List ℕ → List (List ℕ)
code_words NoCode name = codes "NONE" ∷ []
code_words WrongArguments name = codes "TCL" ∷ codes "WRONGARGS" ∷ []
code_words UnknownCommand name = codes "TCL" ∷ codes "LOOKUP" ∷ codes "COMMAND" ∷ name ∷ []
code_words UnknownVariable name = codes "TCL" ∷ codes "LOOKUP" ∷ codes "VARNAME" ∷ name ∷ []
code_words NotNumber name = codes "TCL" ∷ codes "VALUE" ∷ codes "NUMBER" ∷ []
code_words Overflow name = codes "ARITH" ∷ codes "IOVERFLOW" ∷ codes "integer value too large to represent" ∷ []
code_words DivideByZero name = codes "ARITH" ∷ codes "DIVZERO" ∷ codes "divide by zero" ∷ []
code_words ZeroToNegativePower name = codes "ARITH" ∷ codes "DOMAIN" ∷ codes "exponentiation of zero by negative power" ∷ []
