-- The rows of data commands that are handed a variable: what the answer of such a row does.
use Rattle.std.specs.Prelude.{ℕ, if◌then◌else◌, Bool, List, [], ◌∷◌, Result, Ok, Err}
use Rattle.std.specs.Option.{option_map_or}
use Rattle.std.specs.Str.{bytes_eq}
use Rattle.std.specs.Ordering.{nat_cmp}
use Rattle.std.specs.FinMap.{FinMap, get}
use Rattle.tclv_vars.specs.declared.faults.VarFault.{VarFault}
use Rattle.tclv_vars.specs.declared.faults.VarFault.TheVariants as fault
use Rattle.tclv_vars.specs.Table.{Table, Spot}
use Rattle.tclv_model.specs.declared.messages.MessageId.TheVariants.{CannotReadArray}
use Rattle.tclv_model.specs.Message.{text_of}
use Rattle.tclv_model.specs.Rows.{Gives, Refuses, VarAnswer, Variable, Holds, Unset, WholeArray, PlainElement}
use Rattle.tclv_lists.specs.Variables.{row_lappend, row_lpop, row_lset}
use Rattle.tclv_plain.specs.declared.cell_commands.CellCommand.{CellCommand}
use Rattle.tclv_plain.specs.declared.cell_commands.CellCommand.TheVariants as command
use Rattle.tclv_engine.specs.State.{Text, State, variables_in, texts_in}
use Rattle.tclv_engine.specs.Results.{Res, Outcome, bind, ok, error}
use Rattle.tclv_reply.specs.Names.{Naming, naming}
use Rattle.tclv_engine.specs.Names.{bytes_of, write_named}
use Rattle.tclv_engine.specs.Variables.{is_unbuilt, not_built, assign}
use Rattle.tclv_engine.specs.Usages.{call_word}
use Rattle.tclv_engine.specs.DataAnswers.{of_answer, arguments}

-- What a command knows of a variable: the text of the cell that its name stands for, if that is set, or why it has none.
abbrev pub seen : Result Spot VarFault → FinMap nat_cmp Text → Variable
seen (Ok spot) texts = option_map_or Holds (get texts spot.cell) Unset
seen (Err fault.NotArray) texts = PlainElement
seen (Err f) texts = WholeArray

abbrev pub variable_seen : Naming → Table → FinMap nat_cmp Text → Variable
variable_seen n vars texts = seen (write_named vars n) texts

-- the name of the variable, which is the first of the words behind the word of the call
abbrev pub named : List Text → Text
named [] = []
named (name ∷ args) = name

-- The result of an answer. The text that it keeps is the variable's from then on.
abbrev pub keep : {W : Type 0} → Text → Text × Text → (State W) → Res W Outcome
keep name given st = bind (assign name given.1 st) (λ kept s1. ok given.0 s1)

-- The row of a whole array refuses with this message where it comes to the variable. What it refuses before that has another one.
abbrev pub is_of_array : Text → Text → Bool
is_of_array name message = bytes_eq message (text_of CannotReadArray name [])

-- A name that isn't built yet is refused where the row comes to the variable. What the row refuses before that comes first.
abbrev pub unbuilt : {W : Type 0} → Text → VarAnswer → (State W) → Res W Outcome
unbuilt name (Refuses kind message errorcode) st = if is_of_array name message then not_built st else error message errorcode st
unbuilt name (Gives kept) st = not_built st

abbrev pub on_variable : {W : Type 0} → Text → (Variable → VarAnswer) → (State W) → Res W Outcome
on_variable name row st =
    if is_unbuilt (bytes_of name) then unbuilt name (row WholeArray) st else bind (of_answer (row (variable_seen (naming (bytes_of name)) (variables_in st) (texts_in st))) st) (keep name)

-- What a data command does whose row this is. Where the row refuses, the variable stays as it was.
abbrev pub cell_row : {W : Type 0} → (Text → List Text → Variable → VarAnswer) → List Text → (State W) → Res W Outcome
cell_row row words st = on_variable (named (arguments words)) (row (call_word words) (arguments words)) st

-- the row of each data command that is handed a variable
abbrev pub row_of : CellCommand → Text → List Text → Variable → VarAnswer
row_of command.Lappend = row_lappend
row_of command.Lpop = row_lpop
row_of command.Lset = row_lset
