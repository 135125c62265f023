-- What a computation of the meaning gives, and how computations follow one another.
use Rattle.std.specs.Prelude.{ℕ, List, [], ◌∷◌, ◌++◌, codes}
use Rattle.tclv_text.specs.Numbers.{whole_text}
use Rattle.tclv_io.specs.Events.{Event}
use Rattle.tclv_model.specs.declared.outcomes.Code.{Code}
use Rattle.tclv_model.specs.declared.outcomes.Code.TheVariants as code
use Rattle.tclv_model.specs.declared.outcomes.Pair.{Pair}
use Rattle.tclv_model.specs.declared.messages.MessageId.{MessageId}
use Rattle.tclv_model.specs.Message.{text_of}
use Rattle.tclv_engine.specs.declared.endings.Carried.{Carried}
use Rattle.tclv_engine.specs.declared.endings.Carried.TheVariants.{Plain, Kept}
use Rattle.tclv_model.specs.declared.error_codes.ErrorCode.{ErrorCode}
use Rattle.tclv_model.specs.ErrorCodes.{error_code}
use Rattle.tclv_engine.specs.State.{Text, State}

-- A computation ends with a value; with a code that isn't ok, its result and its options; or with a stop, which no command catches:
-- no unit was left, or the end of the run was asked for with a status.
pub data Ending (A : Type 0) : Type 0 where
  Done : A → Ending A
  Left : Code → Text → List Pair → Ending A
  Budget : Ending A
  Exit : ℕ → Ending A

-- It gives its ending, the state after, and the events that it did, in order.
pub record Res (W A : Type 0) : Type 0 where
  pub ending : Ending A
  pub after : (State W)
  pub events : List Event

-- an ending without events
abbrev pub ends : {W A : Type 0} → Ending A → (State W) → Res W A
ends e st = record { ending = e; after = st; events = [] }

-- a value without events
abbrev pub done : {W A : Type 0} → A → (State W) → Res W A
done a st = ends (Done a) st

-- what follows goes on with the value, where there is one
abbrev pub go_on : {W A B : Type 0} → Ending A → (State W) → (A → (State W) → Res W B) → Res W B
go_on (Done a) st next = next a st
go_on (Left c text options) st next = ends (Left c text options) st
go_on Budget st next = ends Budget st
go_on (Exit n) st next = ends (Exit n) st

-- One computation and then another: the events of the first come before those of the second.
unfoldable pub bind : {W A B : Type 0} → Res W A → (A → (State W) → Res W B) → Res W B
bind first next =
    let second = go_on first.ending first.after next in
    record second { events = first.events ++ second.events }

-- ---- options

abbrev pub option : Text → Text → Pair
option key value = record { key = key; value = value }

-- the options of a code with this number, which has none of its own
abbrev pub code_options : Text → List Pair
code_options number = option (codes "-code") number ∷ option (codes "-level") (codes "0") ∷ []

-- the options of an ok that keeps none of its own
abbrev pub plain_options : List Pair
plain_options = code_options (codes "0")

-- the number of a code, as a text
abbrev pub code_text : Code → Text
code_text code.Ok = codes "0"
code_text code.Error = codes "1"
code_text code.Return = codes "2"
code_text code.Break = codes "3"
code_text code.Continue = codes "4"
code_text (code.Other n) = whole_text n

-- the options that an outcome with a code carries: its own, or none but code and level
abbrev pub carried : Code → Carried → List Pair
carried c Plain = code_options (code_text c)
carried c (Kept options) = options

-- the options of an error
abbrev pub error_options : Text → List Pair
error_options errorcode = option (codes "-code") (codes "1") ∷ option (codes "-level") (codes "0") ∷ option (codes "-errorcode") errorcode ∷ []

-- ---- commands

-- What a command or a script gives that ends with ok: a text, and options.
pub record Outcome : Type 0 where
  pub text : Text
  pub options : List Pair

abbrev pub plain : Text → Outcome
plain text = record { text = text; options = plain_options }

-- with the options that a call carries
abbrev pub outcome : Carried → Text → Outcome
outcome kept text = record { text = text; options = carried code.Ok kept }

-- ok with a text
abbrev pub ok : {W : Type 0} → Text → (State W) → Res W Outcome
ok text st = done (plain text) st

-- ---- errors

-- an error with this text and this error code
abbrev pub error : {W A : Type 0} → Text → Text → (State W) → Res W A
error text errorcode st = ends (Left code.Error text (error_options errorcode)) st

-- an error with the text of a message; the message's first part is what the error code names
abbrev pub raise : {W A : Type 0} → MessageId → Text → Text → ErrorCode → (State W) → Res W A
raise kind first second errorcode st = error (text_of kind first second) (error_code errorcode first) st
