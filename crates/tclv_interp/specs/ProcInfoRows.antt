-- The rows of `info` that say what a procedure is, and the number of the level.
use Rattle.std.specs.Prelude.{◌≡◌, ℕ, ◌+◌, Bool, true, false, if◌then◌else◌, List, [], ◌∷◌, ◌++◌, codes, Option, Some, None, map, slice_index_or, pos}
use Rattle.std.specs.FinMap.{get}
use Rattle.std.specs.Str.{bytes_eq}
use Rattle.std.specs.declared.rc.Rc.{Rc}
use Rattle.std.specs.Rc.{rc_value}
use Rattle.tclv_text.specs.Quotes.{list_text}
use Rattle.tclv_text.specs.Numbers.{whole_text}
use Rattle.tclv_value.specs.Procedures.{Procedure}
use Rattle.tclv_value.specs.declared.procedures.Param.{Param}
use Rattle.tclv_model.specs.declared.messages.MessageId.TheVariants as message
use Rattle.tclv_model.specs.declared.error_codes.ErrorCode.TheVariants.{NoCode}
use Rattle.tclv_model.specs.declared.usages.Usage.TheVariants as command
use Rattle.tclv_model.specs.Usages.{usage_of}
use Rattle.tclv_reply.specs.Names.{is_qualified}
use Rattle.tclv_engine.specs.Frames.{names_of, rest_name}
use Rattle.tclv_engine.specs.Links.{current_level}
use Rattle.tclv_engine.specs.Names.{bytes_of}
use Rattle.tclv_engine.specs.Results.{Res, Outcome, bind, done, ok, raise}
use Rattle.tclv_engine.specs.State.{Text, State, own_in}
use Rattle.tclv_engine.specs.Usages.{usage}
use Rattle.tclv_engine.specs.Variables.{assign, not_built}
use Rattle.tclv_plain.specs.Subcommands.{flag}
use Rattle.tclv_interp.specs.declared.builtins.Tables.{Tables}
use Rattle.tclv_interp.specs.declared.builtins.Target.{Target}
use Rattle.tclv_interp.specs.declared.builtins.Target.TheVariants as target
use Rattle.tclv_interp.specs.declared.proc_info.ProcInfo.{ProcInfo}
use Rattle.tclv_interp.specs.declared.proc_info.ProcInfo.TheVariants as info

-- ---- the procedure

abbrev pub no_procedure : Text → State Tables → Res Tables Procedure
no_procedure name st = raise message.NotProcedure name [] NoCode st

abbrev pub procedure_by : Option Target → Text → State Tables → Res Tables Procedure
procedure_by (Some (target.Procedure d)) name st = done d st
procedure_by (Some (target.Builtin c)) name st = no_procedure name st
procedure_by None name st = no_procedure name st

-- the procedure that a name stands for; qualified names aren't built yet
abbrev pub procedure : Text → State Tables → Res Tables Procedure
procedure name st = if is_qualified (bytes_of name) then not_built st else procedure_by (get (own_in st).commands (bytes_of name)) name st

-- ---- its parts

-- the names of its parameters, with that of a last one that takes the words that are left
abbrev pub parameters_of : Procedure → List Text
parameters_of d = names_of d.params ++ rest_name d.rest

abbrev pub info_args : Text → State Tables → Res Tables Outcome
info_args name st = bind (procedure name st) (λ d s1. ok (list_text (parameters_of d)) s1)

abbrev pub info_body : Text → State Tables → Res Tables Outcome
info_body name st = bind (procedure name st) (λ d s1. ok d.body s1)

-- ---- defaults

-- the defaults of parameters
abbrev pub defaults_of : List Param → List (Option Text)
defaults_of ps = map (λ (p : Param). p.default) ps

-- the place of the first of these names that is written by the bytes, counted from a number on
unfoldable pub place_from : List Text → List ℕ → ℕ → Option ℕ
place_from [] name i = None
place_from (n ∷ ns) name i = if bytes_eq (bytes_of n) name then Some i else place_from ns name (i + 1)

-- The variable gets the default, and the empty text where there is none; the result says whether there is one.
abbrev pub stored : Text → Text → Bool → State Tables → Res Tables Outcome
stored var text has st = bind (assign var text st) (λ kept s1. ok (flag has) s1)

abbrev pub stored_default : Text → Option Text → State Tables → Res Tables Outcome
stored_default var (Some text) st = stored var text true st
stored_default var None st = stored var [] false st

-- a last parameter that takes the words that are left has no default
abbrev pub unnamed : Bool → Text → Text → Text → State Tables → Res Tables Outcome
unnamed is name arg var st = if is then stored_default var None st else raise message.NoSuchParameter name arg NoCode st

abbrev pub is_rest : Bool → List ℕ → Bool
is_rest rest arg = if rest then bytes_eq arg (codes "args") else false

abbrev pub default_at : Procedure → Option ℕ → Text → Text → Text → State Tables → Res Tables Outcome
default_at d (Some i) name arg var st = stored_default var (slice_index_or (defaults_of d.params) i None) st
default_at d None name arg var st = unnamed (is_rest d.rest (bytes_of arg)) name arg var st

abbrev pub default_of : Procedure → Text → Text → Text → State Tables → Res Tables Outcome
default_of d name arg var st = default_at d (place_from (names_of d.params) (bytes_of arg) 0) name arg var st

abbrev pub info_default : Text → Text → Text → State Tables → Res Tables Outcome
info_default name arg var st = bind (procedure name st) (λ d s1. default_of d name arg var s1)

-- ---- the level

abbrev pub info_level : State Tables → Res Tables Outcome
info_level st = ok (whole_text (pos (current_level st))) st

-- ---- the rows

-- the subcommand that a word names by its bytes
abbrev pub proc_info : List ℕ → Option ProcInfo
proc_info word =
    if bytes_eq word (codes "args") then Some info.Args else (
    if bytes_eq word (codes "body") then Some info.Body else (
    if bytes_eq word (codes "default") then Some info.Default else (
    if bytes_eq word (codes "level") then Some info.Level else None)))

-- the one that the words of a call name
abbrev pub proc_info_in : List Text → Option ProcInfo
proc_info_in (word ∷ sub ∷ words) = proc_info (bytes_of sub)
proc_info_in words = None

abbrev pub row_args : List Text → State Tables → Res Tables Outcome
row_args (word ∷ sub ∷ name ∷ []) st = info_args name st
row_args words st = usage (usage_of command.InfoArgs) words st

abbrev pub row_body : List Text → State Tables → Res Tables Outcome
row_body (word ∷ sub ∷ name ∷ []) st = info_body name st
row_body words st = usage (usage_of command.InfoBody) words st

abbrev pub row_default : List Text → State Tables → Res Tables Outcome
row_default (word ∷ sub ∷ name ∷ arg ∷ var ∷ []) st = info_default name arg var st
row_default words st = usage (usage_of command.InfoDefault) words st

abbrev pub row_level : List Text → State Tables → Res Tables Outcome
row_level (word ∷ sub ∷ []) st = info_level st
row_level words st = usage (usage_of command.InfoLevel) words st

-- `info args procName`, `info body procName`: the names of the parameters, and the body. `info default procName arg varName`: whether a parameter
-- has a default, which the variable gets. `info level`: the number of the current level, 0 outside of all procedures.
abbrev pub proc_info_row : ProcInfo → List Text → State Tables → Res Tables Outcome
proc_info_row info.Args words st = row_args words st
proc_info_row info.Body words st = row_body words st
proc_info_row info.Default words st = row_default words st
proc_info_row info.Level words st = row_level words st

-- ---- in the code

-- what a name stands for
abbrev pub target_at : Tables → Text → Option Target
target_at own name = get own.commands (bytes_of name)

abbrev pub ShowsNothing : {Z : Type 0} → Option (Rc Procedure Z) → Type 0
ShowsNothing None = Unit {0}
ShowsNothing (Some def) = ⊥

abbrev pub ShowsThis : {Z : Type 0} → Procedure → Option (Rc Procedure Z) → Type 0
ShowsThis d None = ⊥
ShowsThis d (Some def) = rc_value def ≡ d

-- the call returns the procedure where the target is one, and else none
abbrev pub ShowsProcedure : {Z : Type 0} → Target → Option (Rc Procedure Z) → Type 0
ShowsProcedure (target.Builtin c) found = ShowsNothing found
ShowsProcedure (target.Procedure d) found = ShowsThis d found

abbrev pub ShowsFound : {Z : Type 0} → Option Target → Option (Rc Procedure Z) → Type 0
ShowsFound None found = ShowsNothing found
ShowsFound (Some t) found = ShowsProcedure t found
