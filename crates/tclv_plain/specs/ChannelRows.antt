-- Writing on a channel, and the row of `puts`.
use Rattle.std.specs.Prelude.{◌≡◌, ℕ, if◌then◌else◌, Bool, true, false, List, [], ◌∷◌, ◌++◌, Result, Ok, Err, codes}
use Rattle.std.specs.Str.{bytes_eq}
use Rattle.tclv_io.specs.World.{Target, Output, Errors}
use Rattle.tclv_io.specs.declared.outside.WriteFault.{WriteFault}
use Rattle.tclv_io.specs.declared.outside.WriteFault.TheVariants as fault
use Rattle.tclv_io.specs.Events.{Event, Wrote}
use Rattle.tclv_model.specs.declared.messages.MessageId.{MessageId}
use Rattle.tclv_model.specs.declared.messages.MessageId.TheVariants.{NotOpenForWriting, NoSuchChannel}
use Rattle.tclv_plain.specs.declared.channels.Channel.{Channel}
use Rattle.tclv_plain.specs.declared.channels.Channel.TheVariants as channel
use Rattle.tclv_engine.specs.declared.endings.End.{End}
use Rattle.tclv_engine.specs.declared.endings.End.TheVariants as end
use Rattle.tclv_model.specs.declared.error_codes.ErrorCode.TheVariants.{NoCode}
use Rattle.tclv_model.specs.declared.usages.Usage.TheVariants as command
use Rattle.tclv_model.specs.Usages.{usage_of}
use Rattle.tclv_engine.specs.State.{Text, State, with_events}
use Rattle.tclv_engine.specs.Results.{Res, Done, Outcome, bind, ok, raise}
use Rattle.tclv_engine.specs.Names.{bytes_of}
use Rattle.tclv_engine.specs.Usages.{usage}

-- ---- writing

-- A write is one event; a write of no bytes is none.
abbrev pub events_of : Target → List ℕ → List Event
events_of to [] = []
events_of to (b ∷ bs) = Wrote to (b ∷ bs) ∷ []

-- The bytes are written at the end of a target.
abbrev pub write : {W : Type 0} → Target → List ℕ → (State W) → Res W (Unit {0})
write to piece st =
    let events = events_of to piece in
    record {
      ending = Done tt;
      after = with_events events st;
      events = events;
    }

-- Where a computation has no events, nothing is asked of the outside: it is as it was.
abbrev pub IsQuiet : {W A O : Type 0} → ((State W) → Res W A) → O → O → Type 0
IsQuiet m before now = (st : (State _)) → (m st).events ≡ [] → now ≡ before

-- A write ends with no code.
abbrev pub HasNoCode : {T : Type 0} → Result T End → Type 0
HasNoCode (Ok t) = Unit {0}
HasNoCode (Err (end.Left l)) = ⊥
HasNoCode (Err end.Budget) = Unit {0}
HasNoCode (Err (end.Exit status)) = Unit {0}
HasNoCode (Err end.Device) = Unit {0}
HasNoCode (Err end.Memory) = Unit {0}

-- what a failed write ends with: a device's fault, or want of memory
abbrev pub stop_of : WriteFault → End
stop_of (fault.Partly taken) = end.Device
stop_of fault.NoMemory = end.Memory

-- ---- channels

-- where what is written on a channel goes
abbrev pub target_of : Channel → Target
target_of channel.Output = Output
target_of channel.Errors = Errors

-- its number at the outside
abbrev pub number_of : Channel → ℕ
number_of channel.Output = 1
number_of channel.Errors = 2

-- The channel of a name, which must be open for writing: `stdout` or `stderr`. `stdin` isn't, and no other name is a channel.
abbrev pub channel_named : Text → Result Channel MessageId
channel_named name =
    if bytes_eq name (codes "stdout") then Ok channel.Output
    else (if bytes_eq name (codes "stderr") then Ok channel.Errors
    else (if bytes_eq name (codes "stdin") then Err NotOpenForWriting
    else Err NoSuchChannel))

-- ---- puts

-- a text with a newline behind it, where one is wanted
abbrev pub line : Bool → Text → Text
line true text = text ++ 10 ∷ []
line false text = text

abbrev pub is_nonewline : Text → Bool
is_nonewline word = bytes_eq word (codes "-nonewline")

-- A text is written on a channel as one piece, and the result is the empty text.
abbrev pub put : {W : Type 0} → Channel → Text → (State W) → Res W Outcome
put to text st = bind (write (target_of to) (bytes_of text) st) (λ _ after. ok [] after)

-- the same on the channel that was found, or the error that there is none
abbrev pub put_found : {W : Type 0} → Text → Text → Result Channel MessageId → (State W) → Res W Outcome
put_found name text (Ok to) st = put to text st
put_found name text (Err kind) st = raise kind name [] NoCode st

-- The channel is looked up before anything is written.
abbrev pub put_named : {W : Type 0} → Text → Text → (State W) → Res W Outcome
put_named name text st = put_found name text (channel_named name) st

-- Two words: the option and a text for standard output, or a channel and a text.
abbrev pub put_two : {W : Type 0} → Text → Text → (State W) → Res W Outcome
put_two first text st = if is_nonewline first then put channel.Output (line false text) st else put_named first (line true text) st

-- Three words: the option, a channel and a text; another first word fits no form.
abbrev pub put_three : {W : Type 0} → Text → Text → Text → Text → (State W) → Res W Outcome
put_three word option name text st =
    if is_nonewline option then put_named name (line false text) st else usage (usage_of command.Puts) (word ∷ option ∷ name ∷ text ∷ []) st

-- `puts ?-nonewline? ?channelId? string`: the text and a newline, or with the option the text alone, on standard output or on the channel.
abbrev pub row_puts : {W : Type 0} → List Text → (State W) → Res W Outcome
row_puts (word ∷ text ∷ []) st = put channel.Output (line true text) st
row_puts (word ∷ first ∷ text ∷ []) st = put_two first text st
row_puts (word ∷ option ∷ name ∷ text ∷ []) st = put_three word option name text st
row_puts words st = usage (usage_of command.Puts) words st
