-- What the row of a data command says: the answer for the texts of its words.
use Rattle.std.specs.Prelude.{ℕ, List, []}
use Rattle.tclv_model.specs.declared.data_commands.CmdFault.{CmdFault}
use Rattle.tclv_model.specs.declared.data_commands.CmdFault.TheVariants.{WrongArgs, Message}
use Rattle.tclv_model.specs.declared.error_codes.ErrorCode.TheVariants as code
use Rattle.tclv_model.specs.declared.messages.MessageId.{MessageId}
use Rattle.tclv_model.specs.declared.messages.MessageId.TheVariants.{WrongArguments}
use Rattle.tclv_model.specs.ErrorCodes.{error_code}
use Rattle.tclv_model.specs.Message.{text_of}

-- What a step of a row gives, or its refusal: the kind, the message and the error code, which is a list.
pub data Answer (A : Type 0) : Type 0 where
  Gives : A → Answer A
  Refuses : CmdFault → List ℕ → List ℕ → Answer A

-- the answer of a command: its result
abbrev pub RowAnswer : Type 0
RowAnswer = Answer (List ℕ)

-- the answer of a command that changes a variable: its result, and the text that the variable then has; where it refuses, the variable stays
abbrev pub VarAnswer : Type 0
VarAnswer = Answer (List ℕ × List ℕ)

-- What a command knows of the variable that it is handed: the text that it has, that it isn't set, or why it can't be used as a value. It is a
-- whole array, an element of a variable that is no array, or a variable of a namespace that isn't there.
pub data Variable : Type 0 where
  Holds : List ℕ → Variable
  Unset : Variable
  WholeArray : Variable
  PlainElement : Variable
  Homeless : Variable

-- a step, and what follows it with what it gave; a refusal ends the row
abbrev pub and_then : {A B : Type 0} → Answer A → (A → Answer B) → Answer B
and_then (Gives a) rest = rest a
and_then (Refuses fault message code) rest = Refuses fault message code

-- the refusal with a message and the code NONE
abbrev pub says : {A : Type 0} → MessageId → List ℕ → List ℕ → Answer A
says kind first second = Refuses Message (text_of kind first second) (error_code code.NoCode [])

-- the words are none that the command takes: the usage begins with the word of the call
abbrev pub wrong_count : {A : Type 0} → List ℕ → List ℕ → Answer A
wrong_count call usage = Refuses WrongArgs (text_of WrongArguments call usage) (error_code code.WrongArguments [])
