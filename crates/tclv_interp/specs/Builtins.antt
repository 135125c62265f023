-- The commands, by their names.
use Rattle.std.specs.Prelude.{◌≡◌, ℕ, if◌then◌else◌, List, [], ◌∷◌, Option, Some, None, codes}
use Rattle.std.specs.FinMap.{empty, insert, get}
use Rattle.std.specs.Option.{option_map}
use Rattle.std.specs.Str.{bytes_eq}
use Rattle.tclv_model.specs.declared.messages.MessageId.TheVariants as message
use Rattle.tclv_model.specs.declared.error_codes.ErrorCode.TheVariants.{UnknownCommand}
use Rattle.tclv_plain.specs.declared.plain_commands.PlainCommand.TheVariants as plain
use Rattle.tclv_control.specs.declared.control.ControlCommand.TheVariants as control
use Rattle.tclv_control.specs.declared.codes.CodeCommand.TheVariants as ending
use Rattle.tclv_names.specs.Keyed.{Named}
use Rattle.tclv_interp.specs.declared.builtins.CommandTarget.{CommandTarget}
use Rattle.tclv_interp.specs.declared.builtins.CommandTarget.TheVariants as target
use Rattle.tclv_interp.specs.declared.builtins.Target.{Target}
use Rattle.tclv_interp.specs.declared.builtins.Target.TheVariants.{Builtin, Procedure}
use Rattle.tclv_interp.specs.declared.builtins.Found.{Found}
use Rattle.tclv_interp.specs.declared.builtins.Found.TheVariants as found
use Rattle.tclv_interp.specs.declared.builtins.Tables.{Tables}
use Rattle.tclv_engine.specs.State.{Text, State, own_in}
use Rattle.tclv_engine.specs.Results.{Res, done, raise}
use Rattle.tclv_reply.specs.Names.{is_qualified}
use Rattle.tclv_engine.specs.Names.{bytes_of}
use Rattle.tclv_engine.specs.Variables.{not_built}
use Rattle.tclv_plain.specs.declared.data_commands.DataCommand.TheVariants as command
use Rattle.tclv_plain.specs.declared.cell_commands.CellCommand.TheVariants as cell

-- the commands that are built in, each with its name as bytes
unfoldable pub built_in : List (List ℕ × CommandTarget)
built_in =
    (codes "append", target.Plain plain.Append) ∷
    (codes "array", target.Plain plain.Array) ∷
    (codes "break", target.Plain plain.Break) ∷
    (codes "catch", target.Code ending.Catch) ∷
    (codes "concat", target.Plain (plain.Data command.Concat)) ∷
    (codes "continue", target.Plain plain.Continue) ∷
    (codes "error", target.Code ending.Error) ∷
    (codes "eval", target.Control control.Eval) ∷
    (codes "exit", target.Plain plain.Exit) ∷
    (codes "expr", target.Control control.Expr) ∷
    (codes "for", target.Control control.For) ∷
    (codes "foreach", target.Control control.Foreach) ∷
    (codes "global", target.Plain plain.Global) ∷
    (codes "if", target.Control control.If) ∷
    (codes "incr", target.Plain plain.Incr) ∷
    (codes "info", target.Info) ∷
    (codes "join", target.Plain (plain.Data command.Join)) ∷
    (codes "lappend", target.Plain (plain.Cell cell.Lappend)) ∷
    (codes "lassign", target.Plain plain.Lassign) ∷
    (codes "lindex", target.Plain (plain.Data command.Lindex)) ∷
    (codes "linsert", target.Plain (plain.Data command.Linsert)) ∷
    (codes "list", target.Plain (plain.Data command.List)) ∷
    (codes "llength", target.Plain (plain.Data command.Llength)) ∷
    (codes "lmap", target.Control control.Lmap) ∷
    (codes "lpop", target.Plain (plain.Cell cell.Lpop)) ∷
    (codes "lrange", target.Plain (plain.Data command.Lrange)) ∷
    (codes "lremove", target.Plain (plain.Data command.Lremove)) ∷
    (codes "lrepeat", target.Plain (plain.Data command.Lrepeat)) ∷
    (codes "lreplace", target.Plain (plain.Data command.Lreplace)) ∷
    (codes "lreverse", target.Plain (plain.Data command.Lreverse)) ∷
    (codes "lsearch", target.Plain (plain.Data command.Lsearch)) ∷
    (codes "lseq", target.Plain (plain.Data command.Lseq)) ∷
    (codes "lset", target.Plain (plain.Cell cell.Lset)) ∷
    (codes "lsort", target.Plain (plain.Data command.Lsort)) ∷
    (codes "proc", target.Proc) ∷
    (codes "puts", target.Plain plain.Puts) ∷
    (codes "return", target.Code ending.Return) ∷
    (codes "set", target.Plain plain.Set) ∷
    (codes "split", target.Plain (plain.Data command.Split)) ∷
    (codes "string", target.Plain (plain.Data command.String)) ∷
    (codes "switch", target.Control control.Switch) ∷
    (codes "throw", target.Code ending.Throw) ∷
    (codes "try", target.Code ending.Try) ∷
    (codes "unset", target.Plain plain.Unset) ∷
    (codes "uplevel", target.Control control.Uplevel) ∷
    (codes "upvar", target.Plain plain.Upvar) ∷
    (codes "while", target.Control control.While) ∷
    []

-- the first of them that has this name
abbrev pub named_in : List (List ℕ × CommandTarget) → List ℕ → Option CommandTarget
named_in [] name = None
named_in (p ∷ ps) name = if bytes_eq name p.0 then Some p.1 else named_in ps name

abbrev pub builtin_of : List ℕ → Option CommandTarget
builtin_of name = named_in built_in name

-- ---- what names stand for

-- a table in which each of these commands has its name; of several of one name the first counts
abbrev pub commands_of : {K : Type 0} → (K → List ℕ) → List (K × CommandTarget) → Named Target
commands_of bytes [] = empty
commands_of bytes (p ∷ ps) = insert (commands_of bytes ps) (bytes p.0) (Builtin p.1)

-- the tables of a new interpreter
abbrev pub new_tables : Tables
new_tables = record { commands = commands_of (λ name. name) built_in }

-- There a name stands for the command that is built in under it, and for nothing where there is none.
abbrev pub StandsForBuiltin : List ℕ → Type 0
StandsForBuiltin name = get new_tables.commands name ≡ option_map Builtin (builtin_of name)

-- A name stands for its target. Qualified names aren't built yet.
abbrev pub resolved : Option Target → Text → State Tables → Res Tables Target
resolved (Some t) name st = done t st
resolved None name st = raise message.UnknownCommand name [] UnknownCommand st

abbrev pub resolve : Text → State Tables → Res Tables Target
resolve name st = if is_qualified (bytes_of name) then not_built st else resolved (get (own_in st).commands (bytes_of name)) name st

-- ---- in the code

-- what the code found is what the name stands for
abbrev pub target_of : Found → Target
target_of (found.Builtin t) = Builtin t
target_of (found.Procedure def) = Procedure def.value

abbrev pub as_found : Target → Found → List Text → Type 0
as_found t f stack = target_of f ≡ t
