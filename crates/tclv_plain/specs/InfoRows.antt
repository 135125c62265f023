-- The row of `info`.
use Rattle.std.specs.Prelude.{ℕ, Bool, true, false, if◌then◌else◌, List, ◌∷◌, codes, Option, Some, None, Result, Ok, Err}
use Rattle.std.specs.Str.{bytes_eq}
use Rattle.tclv_parse.specs.Grammar.{fault}
use Rattle.tclv_parse.specs.Complete.{is_complete}
use Rattle.tclv_vars.specs.declared.faults.VarFault.{VarFault}
use Rattle.tclv_vars.specs.declared.faults.VarFault.TheVariants as fault
use Rattle.tclv_model.specs.declared.usages.Usage.TheVariants as command
use Rattle.tclv_model.specs.Usages.{usage_of}
use Rattle.tclv_plain.specs.declared.info_commands.InfoCommand.{InfoCommand}
use Rattle.tclv_plain.specs.declared.info_commands.InfoCommand.TheVariants as info
use Rattle.tclv_plain.specs.Subcommands.{flag, no_subcommand, with_one}
use Rattle.tclv_reply.specs.Names.{naming}
use Rattle.tclv_engine.specs.State.{Text, State, variables_in}
use Rattle.tclv_engine.specs.Results.{Res, Outcome, ok}
use Rattle.tclv_engine.specs.Names.{bytes_of, read_named}
use Rattle.tclv_engine.specs.Variables.{is_unbuilt, not_built}
use Rattle.tclv_engine.specs.Usages.{usage}

-- ---- exists

-- A variable is set to a value or to an array, by what reading it gave.
abbrev pub is_set : Result ℕ VarFault → Bool
is_set (Ok cell) = true
is_set (Err fault.IsArray) = true
is_set (Err f) = false

abbrev pub info_exists : {W : Type 0} → Text → State W → Res W Outcome
info_exists name st =
    if is_unbuilt (bytes_of name) then not_built st else ok (flag (is_set (read_named (variables_in st) (naming (bytes_of name))))) st

-- ---- complete

abbrev pub info_complete : {W : Type 0} → Text → State W → Res W Outcome
info_complete text st = ok (flag (is_complete (fault text))) st

-- ---- info

-- the subcommand that a word names by its bytes
abbrev pub info_command : List ℕ → Option InfoCommand
info_command word =
    if bytes_eq word (codes "complete") then Some info.Complete else (
    if bytes_eq word (codes "exists") then Some info.Exists else None)

abbrev pub info_row : {W : Type 0} → InfoCommand → List Text → State W → Res W Outcome
info_row info.Complete = with_one command.InfoComplete info_complete
info_row info.Exists = with_one command.InfoExists info_exists

abbrev pub info_by : {W : Type 0} → Option InfoCommand → Text → List Text → State W → Res W Outcome
info_by None sub words st = no_subcommand sub st
info_by (Some c) sub words st = info_row c words st

-- `info exists varName`: whether a variable or an element is set. `info complete command`: whether a script lacks no closing mark.
abbrev pub row_info : {W : Type 0} → List Text → State W → Res W Outcome
row_info (word ∷ sub ∷ words) st = info_by (info_command (bytes_of sub)) sub (word ∷ sub ∷ words) st
row_info words st = usage (usage_of command.Info) words st
