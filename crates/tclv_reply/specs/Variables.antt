-- The variable that a command is handed: its text, and its refusals.
use Rattle.std.specs.Prelude.{◌≡◌, ℕ, Bool, if◌then◌else◌, List, [], Option, Some, None, is_some, encode_utf8_all}
use Rattle.std.specs.Ordering.{nat_cmp}
use Rattle.std.specs.FinMap.{FinMap, get}
use Rattle.tclv_model.specs.declared.data_commands.CmdFault.TheVariants.{Message}
use Rattle.tclv_model.specs.declared.data_commands.VarState.{VarState}
use Rattle.tclv_model.specs.declared.data_commands.VarState.TheVariants as var
use Rattle.tclv_model.specs.declared.error_codes.ErrorCode.TheVariants.{UnknownVariable}
use Rattle.tclv_model.specs.declared.messages.MessageId.TheVariants.{NoSuchVariable, NoSuchElement, CannotReadArray, CannotReadNonArray, NoParentNamespace}
use Rattle.tclv_model.specs.ErrorCodes.{error_code}
use Rattle.tclv_model.specs.Message.{text_of}
use Rattle.tclv_reply.specs.Names.{is_element}
use Rattle.tclv_model.specs.Rows.{Answer, VarAnswer, Gives, Refuses, Variable, Holds, Unset, WholeArray, PlainElement, Homeless, and_then, says}

-- a name of an element
abbrev pub is_element_name : List ℕ → Bool
is_element_name name = is_element (encode_utf8_all name)

-- the text of a variable, if it is set
abbrev pub value_of : List ℕ → Variable → Answer (Option (List ℕ))
value_of name (Holds t) = Gives (Some t)
value_of name Unset = Gives None
value_of name WholeArray = says CannotReadArray name []
value_of name PlainElement = says CannotReadNonArray name []
value_of name Homeless = says NoParentNamespace name []

-- The variable is that of the cell x.0, whose text is the value, and x.1 says whether it has one.
pub record IsVariable (variable : VarState) (cells : FinMap nat_cmp (List ℕ)) (value : Option (List ℕ)) (x : ℕ × Bool) : Type 0 where
  pub cell : variable ≡ var.Cell x.0
  pub is : value ≡ get cells x.0
  pub set : is_some value ≡ x.1

-- the refusal of a variable that isn't set
abbrev pub not_set : {A : Type 0} → List ℕ → Answer A
not_set name = if is_element_name name then says NoSuchElement name [] else Refuses Message (text_of NoSuchVariable name []) (error_code UnknownVariable name)

-- the text of a variable that must be set
abbrev pub set_value : List ℕ → Option (List ℕ) → Answer (List ℕ)
set_value name (Some t) = Gives t
set_value name None = not_set name

abbrev pub text_of_set : List ℕ → Variable → Answer (List ℕ)
text_of_set name v = and_then (value_of name v) (λ old. set_value name old)

-- The variable is that of this cell, whose text is the value.
pub record IsSet (variable : VarState) (cells : FinMap nat_cmp (List ℕ)) (value : List ℕ) (cell : ℕ) : Type 0 where
  pub cell_is : variable ≡ var.Cell cell
  pub is : get cells cell ≡ Some value

-- a new text of the variable, which is the result too
abbrev pub both : List ℕ → VarAnswer
both t = Gives (t, t)
