-- The meaning of the commands: what their words want done, and what is done behind a script.
use Rattle.std.specs.Prelude.{List, [], ◌∷◌, Option, Some, None}
use Rattle.tclv_interp.specs.declared.builtins.Tables.{Tables}
use Rattle.tclv_control.specs.declared.behind.Behind.{Behind}
use Rattle.tclv_control.specs.declared.behind.Behind.TheVariants.{HandOn, Procedure as BehindBody}
use Rattle.tclv_interp.specs.declared.builtins.CommandTarget.{CommandTarget}
use Rattle.tclv_interp.specs.declared.builtins.CommandTarget.TheVariants as target
use Rattle.tclv_engine.specs.State.{Text}
use Rattle.tclv_engine.specs.State as engine
use Rattle.tclv_engine.specs.Results as results
use Rattle.tclv_engine.specs.Results.{Outcome, bind, done, plain}
use Rattle.tclv_engine.specs.Plans.{Wanted, Finished}
use Rattle.tclv_engine.specs.Words as words
use Rattle.tclv_engine.specs.Evaluation.{Given}
use Rattle.tclv_plain.specs.declared.plain_commands.PlainCommand.{PlainCommand}
use Rattle.tclv_plain.specs.declared.plain_commands.PlainCommand.TheVariants as plain_command
use Rattle.tclv_plain.specs.PlainRows.{plain_row}
use Rattle.tclv_control.specs.CodeRows.{code_wanted}
use Rattle.tclv_control.specs.ControlRows.{control_wanted}
use Rattle.tclv_control.specs.Finishing.{finish}
use Rattle.tclv_control.specs.CallRows.{wanted_call}
use Rattle.tclv_interp.specs.declared.builtins.Target.{Target}
use Rattle.tclv_interp.specs.declared.builtins.Target.TheVariants.{Builtin, Procedure}
use Rattle.tclv_interp.specs.Builtins.{resolve}
use Rattle.tclv_interp.specs.ProcRows.{row_proc}
use Rattle.tclv_interp.specs.declared.proc_info.ProcInfo.{ProcInfo}
use Rattle.tclv_interp.specs.ProcInfoRows.{proc_info_in, proc_info_row}

-- the state of a script, and what a computation gives
abbrev pub State : Type 0
State = engine.State Tables

abbrev pub Res : Type 0 → Type 0
Res A = results.Res Tables A

-- what evaluates inner scripts
abbrev pub Evaluator : Type 0
Evaluator = words.Evaluator Tables

-- what a command wants that evaluates nothing: its outcome is there
abbrev pub finished : Res Outcome → Res (Wanted Behind)
finished r = bind r (λ o st. done (Finished o) st)

abbrev pub wanted_plain : PlainCommand → List Text → State → Res (Wanted Behind)
wanted_plain c words st = finished (plain_row c words st)

abbrev pub wanted_proc : List Text → State → Res (Wanted Behind)
wanted_proc words st = finished (row_proc words st)

abbrev pub wanted_proc_info : ProcInfo → List Text → State → Res (Wanted Behind)
wanted_proc_info c words st = finished (proc_info_row c words st)

abbrev pub wanted_info_by : Option ProcInfo → List Text → State → Res (Wanted Behind)
wanted_info_by (Some c) words st = wanted_proc_info c words st
wanted_info_by None words st = wanted_plain plain_command.Info words st

-- `info`: the subcommands that ask for a procedure or for the level are answered here, the others as they are of no table of commands
abbrev pub wanted_info : List Text → State → Res (Wanted Behind)
wanted_info words st = wanted_info_by (proc_info_in words) words st

-- what a command wants that is built in, by its row
abbrev pub wanted_builtin : CommandTarget → List Text → State → Res (Wanted Behind)
wanted_builtin (target.Plain c) words st = wanted_plain c words st
wanted_builtin (target.Control c) words st = control_wanted HandOn c words st
wanted_builtin (target.Code c) words st = code_wanted c words st
wanted_builtin target.Info words st = wanted_info words st
wanted_builtin target.Proc words st = wanted_proc words st

-- what the target of a name wants
abbrev pub wanted : Target → List Text → State → Res (Wanted Behind)
wanted (Builtin c) words st = wanted_builtin c words st
wanted (Procedure d) words st = wanted_call d BehindBody words st

-- The first of the words names the command.
unfoldable pub plan_of : List Text → State → Res (Wanted Behind)
plan_of [] st = done (Finished (plain [])) st
plan_of (name ∷ args) st = bind (resolve name st) (λ t s1. wanted t (name ∷ args) s1)

-- the meaning of the commands
abbrev pub shell : Given Tables Behind
shell = record { plan = plan_of; finish = finish }
