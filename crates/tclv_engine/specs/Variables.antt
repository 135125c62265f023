-- Reading and writing variables.
use Rattle.std.specs.Prelude.{◌≡◌, ℕ, ◌++◌, codes, Bool, if◌then◌else◌, List, [], unwrap_or, Result, Ok, Err}
use Rattle.std.specs.FinMap.{get, insert}
use Rattle.tclv_vars.specs.declared.faults.VarFault.{VarFault}
use Rattle.tclv_vars.specs.declared.faults.VarFault.TheVariants as fault
use Rattle.tclv_vars.specs.Table.{Spot}
use Rattle.tclv_model.specs.declared.messages.MessageId.{MessageId}
use Rattle.tclv_model.specs.declared.messages.MessageId.TheVariants as message
use Rattle.tclv_model.specs.declared.error_codes.ErrorCode.{ErrorCode}
use Rattle.tclv_model.specs.declared.error_codes.ErrorCode.TheVariants.{NoCode, UnknownVariable}
use Rattle.tclv_engine.specs.State.{Text, State, variables_in, texts_in, with_variables}
use Rattle.tclv_model.specs.Message.{text_of}
use Rattle.tclv_engine.specs.declared.endings.End.{End}
use Rattle.tclv_engine.specs.declared.endings.End.TheVariants as end
use Rattle.tclv_engine.specs.Results.{Res, done, raise}
use Rattle.tclv_model.specs.ErrorCodes.{error_code}
use Rattle.tclv_engine.specs.Answers.{Raises}
use Rattle.tclv_reply.specs.Names.{Naming, naming, element_of}
use Rattle.tclv_engine.specs.Names.{bytes_of, read_named, write_named}

-- Qualified names aren't built yet.
abbrev pub is_unbuilt : List ℕ → Bool
is_unbuilt name = (naming name).qualified

abbrev pub not_built : {W A : Type 0} → (State W) → Res W A
not_built st = raise message.NotBuilt [] [] NoCode st

-- ---- reading

-- why a variable can't be read
abbrev pub reading_message : VarFault → MessageId
reading_message fault.NoElement = message.NoSuchElement
reading_message fault.IsArray = message.CannotReadArray
reading_message fault.NotArray = message.CannotReadNonArray
reading_message _ = message.NoSuchVariable

abbrev pub reading_code : VarFault → ErrorCode
reading_code fault.NoElement = NoCode
reading_code fault.IsArray = NoCode
reading_code fault.NotArray = NoCode
reading_code _ = UnknownVariable

-- the text of the cell that was found
abbrev pub read_cell : {W : Type 0} → Text → Result ℕ VarFault → (State W) → Res W Text
read_cell name (Ok cell) st = done (unwrap_or (get (texts_in st) cell) []) st
read_cell name (Err f) st = raise (reading_message f) name [] (reading_code f) st

-- the value of what is named so; `name` is what a message calls it
abbrev pub value_of : {W : Type 0} → Text → Naming → (State W) → Res W Text
value_of name n st = if n.qualified then not_built st else read_cell name (read_named (variables_in st) n) st

-- the value of the variable of this name
abbrev pub variable : {W : Type 0} → Text → (State W) → Res W Text
variable name st = value_of name (naming (bytes_of name)) st

-- the name of an element, as a script writes it
abbrev pub element_name : Text → Text → Text
element_name array index = array ++ codes "(" ++ index ++ codes ")"

-- the value of the element of this array and this index
abbrev pub element_value : {W : Type 0} → Text → Text → (State W) → Res W Text
element_value array index st = value_of (element_name array index) (element_of (bytes_of array) (bytes_of index)) st

-- ---- writing

-- why a variable can't be set
abbrev pub setting_message : VarFault → MessageId
setting_message fault.NotArray = message.CannotSetNonArray
setting_message _ = message.CannotSetArray

-- what a call answers that refuses to set a variable
abbrev pub RefusesSetting : VarFault → Text → List Text → End → Type 0
RefusesSetting fault.NoMemory name stack e = e ≡ end.Memory
RefusesSetting f name stack e = Raises (text_of (setting_message f) name []) (error_code NoCode name) stack e

-- the cell that was found has this text
abbrev pub write_cell : {W : Type 0} → Text → Text → Result Spot VarFault → (State W) → Res W Text
write_cell name value (Ok spot) st = done value (with_variables spot.after (insert (texts_in st) spot.cell value) st)
write_cell name value (Err f) st = raise (setting_message f) name [] NoCode st

-- What is named so is set to a text, which is the value.
abbrev pub set_to : {W : Type 0} → Text → Text → Naming → (State W) → Res W Text
set_to name value n st = if n.qualified then not_built st else write_cell name value (write_named (variables_in st) n) st

-- The variable of this name is set to a text, which is the value.
abbrev pub assign : {W : Type 0} → Text → Text → (State W) → Res W Text
assign name value st = set_to name value (naming (bytes_of name)) st
