-- What a run means, and what a report says of it.
use Rattle.std.specs.Prelude.{ℕ, ◌+◌, ◌-◌, ◌≡◌, ◌⊎◌, ◌<◌, ◌≤◌, nat_lt, ◌^◌, if◌then◌else◌, List, [], ◌∷◌, ◌++◌, length, drop, map, Option, Some, None, pos, codes}
use Rattle.std.specs.FinMap as finite
use Rattle.std.specs.Str.{chars, is_utf8}
use Rattle.tclv_text.specs.Numbers.{whole_text}
use Rattle.tclv_text.specs.Quotes.{list_text}
use Rattle.tclv_model.specs.declared.reports.End.{End}
use Rattle.tclv_model.specs.declared.reports.End.TheVariants.{Done, Failed, Usage, Budget, Device, Memory}
use Rattle.tclv_model.specs.declared.reports.Report.{Report}
use Rattle.tclv_model.specs.declared.outcomes.Code.TheVariants as code
use Rattle.tclv_model.specs.declared.messages.MessageId.{MessageId}
use Rattle.tclv_model.specs.declared.messages.MessageId.TheVariants as message
use Rattle.tclv_model.specs.Message.{text_of}
use Rattle.tclv_io.specs.World.{World, Out, Errors}
use Rattle.tclv_io.specs.Events.{Event, Wrote, After, next_length}
use Rattle.tclv_io.specs.Causes.{Rose}
use Rattle.tclv_engine.specs.State.{Text}
use Rattle.tclv_interp.specs.Commands.{State}
use Rattle.tclv_engine.specs.Results.{Ending, Outcome}
use Rattle.tclv_engine.specs.Results as ending
use Rattle.tclv_engine.specs.Variables.{assign}
use Rattle.tclv_interp.specs.Interpreters.{blank, evaluation}
use Rattle.tclv_shell.specs.Halts.{Seen}
use Rattle.tclv_shell.specs.Words.{Invocation, invocation_of}
use Rattle.tclv_shell.specs.ScriptText.{script_text}
use Rattle.tclv_shell.specs.FileEnds.{file_error}

-- ---- what a run means

-- what a run does to the outside, in order; how it ends, and with which status; and how many units it used
pub record Meaning : Type 0 where
  pub events : List Event
  pub end : End
  pub status : ℕ
  pub units : ℕ

-- the status that belongs to an end, where nothing else is asked for
abbrev pub status_of : End → ℕ
status_of Done = 0
status_of Failed = 1
status_of Usage = 2
status_of Budget = 125
status_of Device = 124
status_of Memory = 123

-- a run that did these events, used so many units and ends without a message, with this status
abbrev pub without_message : List Event → ℕ → ℕ → Meaning
without_message events units status = record { events = events; end = Done; status = status; units = units }

-- a run that did these events, used so many units and ends with a message, which is written with a newline on standard error
abbrev pub with_message : List Event → ℕ → List ℕ → End → Meaning
with_message events units message end = record { events = events ++ Wrote Errors (message ++ 10 ∷ []) ∷ []; end = end; status = status_of end; units = units }

-- The end of the script file: all is done, or it ends with an error.
abbrev pub at_file_end : List Event → ℕ → Option (List ℕ) → Meaning
at_file_end events units None = without_message events units 0
at_file_end events units (Some message) = with_message events units message Failed

-- How the evaluation of its script ends a run: at the end of the file by the script's code, where no unit was left with a message,
-- and where the end was asked for with the status that was named.
abbrev pub meaning_of_ending : List Event → ℕ → Ending Outcome → Meaning
meaning_of_ending events units (ending.Done o) = at_file_end events units (file_error code.Ok o.options o.text)
meaning_of_ending events units (ending.Left c text options) = at_file_end events units (file_error c options text)
meaning_of_ending events units ending.Budget = with_message events units (text_of message.CommandLimitExceeded [] []) Budget
meaning_of_ending events units (ending.Exit n) = without_message events units n

-- the evaluation of a script from a state
abbrev pub meaning_of_evaluation : Text → State → Meaning
meaning_of_evaluation script st = let r = evaluation script st in meaning_of_ending r.events (st.units - r.after.units) r.ending

-- the state after a variable was set
abbrev pub with_variable : Text → Text → State → State
with_variable name value st = (assign name value st).after

-- The state that a script file starts in: all units, and no variables but these, set in this order: `argv0`, the file's name; `argv`, the list of
-- arguments; and `argc`, the count of them.
unfoldable pub start : Invocation → World → State
start i world =
    with_variable (codes "argc") (whole_text (pos (length i.args)))
    (with_variable (codes "argv") (list_text (map chars i.args))
    (with_variable (codes "argv0") (chars i.file) (blank i.budget world)))

-- the script of a file that is this text
abbrev pub meaning_of_script : Invocation → List ℕ → World → Meaning
meaning_of_script i text world = meaning_of_evaluation (script_text text) (start i world)

-- a run that only writes a message
abbrev pub message_only : MessageId → List ℕ → End → Meaning
message_only kind part end = with_message [] 0 (text_of kind part []) end

-- The script file: where it is there, its size is looked at, then whether it is UTF-8, and then its script runs.
abbrev pub meaning_of_file : Invocation → Option (List ℕ) → World → Meaning
meaning_of_file i None world = message_only message.NoSuchFile i.file Failed
meaning_of_file i (Some bytes) world =
    if nat_lt (2 ^ 30) (length bytes) then message_only message.FileTooLarge i.file Failed
    else (if is_utf8 bytes then meaning_of_script i (chars bytes) world
    else message_only message.FileNotUtf8 i.file Failed)

abbrev pub meaning_of_invocation : Option Invocation → World → Meaning
meaning_of_invocation None world = message_only message.Usage [] Usage
meaning_of_invocation (Some i) world = meaning_of_file i (finite.get world.out.files i.file) world

-- the meaning of the words over a world
abbrev pub Run : List (List ℕ) → World → Meaning
Run words world = meaning_of_invocation (invocation_of words) world

-- ---- what a report says

-- the run came to its own end
abbrev pub IsComplete : End → Type 0
IsComplete Done = Unit {0}
IsComplete Failed = Unit {0}
IsComplete Usage = Unit {0}
IsComplete Budget = Unit {0}
IsComplete Device = ⊥
IsComplete Memory = ⊥

-- a device or want of memory ended the run
abbrev pub IsCutShort : End → Type 0
IsCutShort Device = Unit {0}
IsCutShort Memory = Unit {0}
IsCutShort _ = ⊥

-- the status that an end has; `exit` ends a run as done with any status
abbrev pub HasStatus : End → ℕ → Type 0
HasStatus Done status = Unit {0}
HasStatus Failed status = status ≡ 1
HasStatus Usage status = status ≡ 2
HasStatus Budget status = status ≡ 125
HasStatus Device status = status ≡ 124
HasStatus Memory status = status ≡ 123

-- the report is the meaning's, and all of its events happened and nothing else
pub record MeansAll (meaning : Meaning) (before : Out) (after : Option Out) (report : Report) : Type 0 where
  pub end : report.end ≡ meaning.end
  pub status : report.status ≡ meaning.status
  pub writes : report.writes ≡ length meaning.events
  pub out : after ≡ Some (After before meaning.events report.writes 0)

-- all is as the meaning says, or memory ran out
abbrev pub Completes : Meaning → Out → Option Out → Report → Type 0
Completes meaning before after report = MeansAll meaning before after report ⊎ (report.end ≡ Memory)

-- the first events happened, and of the next the `part` bytes that a failed write took
pub record MeansPrefix (meaning : Meaning) (before : Out) (after : Option Out) (torn_before torn_after : ℕ) (report : Report) : Type 0 where
  pub part : ℕ
  pub torn : torn_after ≡ torn_before + part
  pub writes : report.writes ≤ length meaning.events
  pub within : part ≤ next_length (drop report.writes meaning.events)
  pub none : report.end ≡ Memory → part ≡ 0
  pub out : after ≡ Some (After before meaning.events report.writes part)

-- The report and what others see are those of the meaning, which depends on what was told before.
pub record Follows (meaning : World → Meaning) (told : Option World) (before after : Seen) (report : Report) : Type 0 where
  pub all : (w : World) → told ≡ Some w → IsComplete report.end → MeansAll (meaning w) w.out after.shown report
  pub prefix : (w : World) → told ≡ Some w → IsCutShort report.end → MeansPrefix (meaning w) w.out after.shown before.torn after.torn report
  pub device : report.end ≡ Device → Rose before.faults after.faults
  pub fault : before.faults < after.faults → report.end ≡ Device
  pub later : before.faults ≤ after.faults
  pub status : HasStatus report.end report.status

-- The same behind `done` events that happened before, where `own` is what the report would be without them.
pub record FollowsBehind (done : ℕ) (meaning : World → Meaning) (told : Option World) (before after : Seen) (report : Report) : Type 0 where
  pub own : Report
  pub end : report.end ≡ own.end
  pub status : report.status ≡ own.status
  pub writes : report.writes ≡ done + own.writes
  pub follows : Follows meaning told before after own
