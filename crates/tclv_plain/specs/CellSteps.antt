-- What the calls of data commands that are handed a variable answer in the code.
use Rattle.std.specs.Prelude.{◌≡◌, ℕ, ◌++◌, List, [], ◌∷◌, Option, None, Some, Result, OnOk, OnErr, IfErr}
use Rattle.tclv_vars.specs.declared.faults.VarFault.{VarFault}
use Rattle.tclv_vars.specs.declared.faults.VarFault.TheVariants as fault
use Rattle.tclv_model.specs.declared.data_commands.CmdFault.{CmdFault}
use Rattle.tclv_model.specs.declared.data_commands.VarState.{VarState}
use Rattle.tclv_model.specs.declared.data_commands.VarState.TheVariants as var
use Rattle.tclv_model.specs.Rows.{Gives, VarAnswer, Variable}
use Rattle.tclv_value.specs.Stacks.{under}
use Rattle.tclv_reply.specs.Replies as replies
use Rattle.tclv_reply.specs.Names.{Naming}
use Rattle.tclv_engine.specs.Holdings.{Holdings, SameVariables, Sets}
use Rattle.tclv_engine.specs.State.{Text}
use Rattle.tclv_plain.specs.CellRows.{variable_seen}

-- what a command is told of a variable that a write refuses; nothing where memory ran out
abbrev pub unsettable : VarFault → Option VarState
unsettable fault.NoMemory = None
unsettable fault.NotArray = Some var.NotArray
unsettable f = Some var.IsArray

-- The row gives a result, which stands in place of the n words, and what is named so is set to the text that it keeps.
pub record Kept (row : Variable → VarAnswer) (n : ℕ) (name : Naming) (old new : Holdings) : Type 0 where
  pub text : Text
  pub kept : Text
  pub given : row (variable_seen name old.vars old.store.cells) ≡ Gives (text, kept)
  pub stack : new.store.stack ≡ under n old.store.stack ++ text ∷ []
  pub sets : Sets old new name kept

-- What the call of a data command answers on what is named so.
pub record Changes (row : Variable → VarAnswer) (n : ℕ) (name : Naming) (old new : Holdings) (result : Result (Unit {0}) CmdFault) : Type 0 where
  pub keeps : OnOk result (Kept row n name old new)
  pub refuses : IfErr result (λ kind. replies.IsRefused (row (variable_seen name old.vars old.store.cells)) kind n old.store new.store)
  pub same : OnErr result (SameVariables old new)
