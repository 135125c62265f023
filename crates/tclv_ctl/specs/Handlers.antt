-- What the words of `try` say, and which handler is for an outcome.
use Rattle.std.specs.Prelude.{◌≡◌, ℕ, ◌-◌, ◌<◌, Bool, true, false, ◌&&◌, if◌then◌else◌, List, [], ◌∷◌, map, length, Option, Some, None, pos, IfSome, slice_get, slice_index_or, codes}
use Rattle.std.specs.List.{All}
use Rattle.std.specs.Option.{option_map}
use Rattle.std.specs.Ordering.{int_eq}
use Rattle.std.specs.Str.{bytes_eq}
use Rattle.tclv_model.specs.declared.outcomes.Code.{Code}
use Rattle.tclv_model.specs.declared.messages.MessageId.TheVariants.{LastHandlerWithoutBody}
use Rattle.tclv_model.specs.declared.usages.Usage.TheVariants.{Try}
use Rattle.tclv_model.specs.Usages.{usage_of}
use Rattle.tclv_model.specs.Codes.{code_number}
use Rattle.tclv_model.specs.Rows.{Answer, Gives, Refuses, and_then, says, wrong_count}
use Rattle.tclv_model.specs.Values.{list_of}
use Rattle.tclv_ctl.specs.declared.handlers.Handling.{Handling}
use Rattle.tclv_ctl.specs.declared.handlers.Handling.TheVariants as handling
use Rattle.tclv_ctl.specs.declared.handlers.Condition.{Condition}
use Rattle.tclv_ctl.specs.declared.handlers.Condition.TheVariants as place
use Rattle.tclv_ctl.specs.declared.handlers.HandlerPlaces.{HandlerPlaces}
use Rattle.tclv_ctl.specs.declared.handlers.TryPlan.{TryPlan}
use Rattle.tclv_ctl.specs.Codes.{completion_code}
use Rattle.tclv_ctl.specs.Switching.{Text, is_dash, given_words}

-- What an outcome has to be for a handler: one with this code, or an error whose code begins with the elements of this pattern.
pub data For : Type 0 where
  On : Code → For
  Trap : Text → For

-- a handler: what it is for, the names of its variables, and its script
pub record Handler : Type 0 where
  pub wanted : For
  pub names : List Text
  pub script : Text

-- what stands behind the body: handlers, and the script that runs in the end
pub record Handlers : Type 0 where
  pub handlers : List Handler
  pub finally : Option Text

-- ---- words

-- which handler a word begins
abbrev pub beginning : Text → Handling
beginning word =
    if bytes_eq word (codes "on") then handling.On
    else (if bytes_eq word (codes "trap") then handling.Trap
    else handling.Unknown)

-- what the first two words of a handler say; a pattern is a list
abbrev pub wanted : Text → Handling → Text → Answer For
wanted call handling.On what = and_then (completion_code what) (λ c. Gives (On c))
wanted call handling.Trap what = and_then (list_of what) (λ ws. Gives (Trap what))
wanted call handling.Unknown what = wrong_count call (usage_of Try)

-- what the four words of a handler say
abbrev pub handler : Text → Text → Text → Text → Text → Answer Handler
handler call word what names script = and_then (wanted call (beginning word) what) (λ w. and_then (list_of names) (λ ns. Gives (record { wanted = w; names = ns; script = script })))

-- the handlers of words four by four, from the left; up to three words that are left count for nothing
abbrev pub handlers : Text → List Text → Answer (List Handler)
handlers call (word ∷ what ∷ names ∷ script ∷ words) = and_then (handler call word what names script) (λ h. and_then (handlers call words) (λ hs. Gives (h ∷ hs)))
handlers call (word ∷ what ∷ names ∷ []) = Gives []
handlers call (word ∷ what ∷ []) = Gives []
handlers call (word ∷ []) = Gives []
handlers call [] = Gives []

-- what stands behind the handlers: nothing, or `finally` and a script
abbrev pub ending : Text → List Text → Answer (Option Text)
ending call (word ∷ what ∷ names ∷ script ∷ words) = ending call words
ending call (word ∷ what ∷ names ∷ []) = wrong_count call (usage_of Try)
ending call (word ∷ script ∷ []) = if bytes_eq word (codes "finally") then Gives (Some script) else wrong_count call (usage_of Try)
ending call (word ∷ []) = wrong_count call (usage_of Try)
ending call [] = Gives None

-- ---- scripts

-- the first script that is no `-`
abbrev pub next_script : List Handler → Text
next_script [] = []
next_script (h ∷ hs) = if is_dash h.script then next_script hs else h.script

abbrev pub with_script : Text → Handler → Handler
with_script script h = record { wanted = h.wanted; names = h.names; script = script }

-- each handler with the next script that is no `-`
abbrev pub with_scripts : List Handler → List Handler
with_scripts [] = []
with_scripts (h ∷ hs) = with_script (next_script (h ∷ hs)) h ∷ with_scripts hs

abbrev pub is_dash_handler : Option Handler → Bool
is_dash_handler None = false
is_dash_handler (Some h) = is_dash h.script

-- the last handler has a script `-`
abbrev pub ends_in_dash : List Handler → Bool
ends_in_dash hs = is_dash_handler (slice_get hs (length hs - 1))

-- what the handlers and the end say, where the last handler has a script of its own
abbrev pub with_end : List Handler → Option Text → Answer Handlers
with_end hs finally = if ends_in_dash hs then says LastHandlerWithoutBody [] [] else Gives (record { handlers = with_scripts hs; finally = finally })

-- ---- the row

-- what the words behind the body say
abbrev pub clauses_of : Text → List Text → Answer Handlers
clauses_of call words = and_then (handlers call words) (λ hs. and_then (ending call words) (with_end hs))

-- `try body ?handler ...? ?finally script?`
abbrev pub handlers_of : Text → List Text → Answer Handlers
handlers_of call [] = wrong_count call (usage_of Try)
handlers_of call (body ∷ words) = clauses_of call words

-- ---- the handler that is chosen

-- the elements of a text, or none where it is no list
abbrev pub listed : Answer (List Text) → Option (List Text)
listed (Gives words) = Some words
listed (Refuses kind message code) = None

-- The words begin with these.
abbrev pub begins_with : List Text → List Text → Bool
begins_with words [] = true
begins_with [] (f ∷ front) = false
begins_with (w ∷ words) (f ∷ front) = bytes_eq w f && begins_with words front

-- Both are lists, and the words begin with the pattern's elements.
abbrev pub is_front : Option (List Text) → Option (List Text) → Bool
is_front (Some words) (Some front) = begins_with words front
is_front (Some words) None = false
is_front None front = false

-- The outcome with this code, whose error code has these words, is what the handler is for.
abbrev pub fits : Code → Option (List Text) → For → Bool
fits code words (On c) = int_eq (code_number code) (code_number c)
fits code words (Trap pattern) = int_eq (code_number code) (pos 1) && is_front words (listed (list_of pattern))

-- the first handler that fits
abbrev pub first_fitting : Code → Option (List Text) → List Handler → Option Handler
first_fitting code words [] = None
first_fitting code words (h ∷ hs) = if fits code words h.wanted then Some h else first_fitting code words hs

-- the handler for an outcome with this code; the error code counts only where that is an error
abbrev pub handler_for : Code → Text → List Handler → Option Handler
handler_for code error_code hs = first_fitting code (listed (list_of error_code)) hs

-- ---- plans

abbrev pub wanted_in : List Text → Condition → For
wanted_in stack (place.On c) = On c
wanted_in stack (place.Trap pattern) = Trap (slice_index_or stack pattern [])

-- what the places of a handler say
abbrev pub handler_in : List Text → HandlerPlaces → Handler
handler_in stack h = record { wanted = wanted_in stack h.condition; names = given_words (list_of (slice_index_or stack h.names [])); script = slice_index_or stack h.body [] }

abbrev pub IsConditionInside : List Text → Condition → Type 0
IsConditionInside stack (place.On c) = Unit {0}
IsConditionInside stack (place.Trap pattern) = pattern < length stack

-- All places of a handler are there.
pub record IsHandlerInside (stack : List Text) (h : HandlerPlaces) : Type 0 where
  pub condition : IsConditionInside stack h.condition
  pub names : h.names < length stack
  pub body : h.body < length stack

abbrev pub text_in : List Text → ℕ → Text
text_in stack at = slice_index_or stack at []

-- The places of a plan are there, and have the texts of what the words say.
pub record IsTryPlanOf (stack : List Text) (said : Handlers) (plan : TryPlan) : Type 0 where
  pub inside : All (IsHandlerInside stack) plan.handlers.items
  pub handlers : map (handler_in stack) plan.handlers.items ≡ said.handlers
  pub finally_inside : IfSome plan.finally (λ at. at < length stack)
  pub finally : option_map (text_in stack) plan.finally ≡ said.finally
