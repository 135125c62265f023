-- The row of `try`, and what is done behind its scripts: the body, a handler, and the script that runs in the end.
use Rattle.std.specs.Prelude.{List, [], ◌∷◌, if◌then◌else◌, slice_get, Option, Some, None, codes}
use Rattle.std.specs.Str.{bytes_eq}
use Rattle.tclv_text.specs.Quotes.{list_text}
use Rattle.tclv_model.specs.declared.outcomes.Code.{Code}
use Rattle.tclv_model.specs.declared.outcomes.Code.TheVariants as code
use Rattle.tclv_model.specs.declared.outcomes.Pair.{Pair}
use Rattle.tclv_ctl.specs.Handlers.{Handler, Handlers, handlers_of, handler_for}
use Rattle.tclv_engine.specs.State.{Text, State}
use Rattle.tclv_engine.specs.Results.{Ending, Done, Left, Budget, Exit, Res, bind, done}
use Rattle.tclv_engine.specs.Usages.{call_word}
use Rattle.tclv_engine.specs.DataAnswers.{of_answer, arguments}
use Rattle.tclv_engine.specs.Plans.{Wanted, Run, Conclusion}
use Rattle.tclv_control.specs.declared.behind.Behind.{Behind}
use Rattle.tclv_control.specs.declared.behind.Behind.TheVariants as behind
use Rattle.tclv_control.specs.CatchRows.{note}
use Rattle.tclv_control.specs.HandingOn.{hand_on}
use Rattle.tclv_control.specs.Outcomes.{option_words}

-- ---- the words

-- a body runs, and behind it the words say what is done
abbrev pub body_wanted : {W : Type 0} → Text → List Text → (State W) → Res W (Wanted Behind)
body_wanted call words st = done (Run (call_word words) (behind.Body call words)) st

-- `try body ?handler ...? ?finally script?`: the words are read first.
abbrev pub wanted_try : {W : Type 0} → List Text → (State W) → Res W (Wanted Behind)
wanted_try words st =
    bind (of_answer (handlers_of (call_word words) (arguments words)) st) (λ said s1. body_wanted (call_word words) (arguments words) s1)

-- ---- in the end

-- The script that runs in the end, if there is one. The outcome before it is the command's.
abbrev pub at_last : {W : Type 0} → Option Text → Conclusion → (State W) → Res W (Wanted Behind)
at_last None e st = hand_on e.code e.text e.options st
at_last (Some script) e st = done (Run script (behind.Finally e.code e.text e.options)) st

-- Where that script is ok, the outcome before it counts, else its own.
abbrev pub unless : {W : Type 0} → Code → Code → Text → List Pair → Conclusion → (State W) → Res W (Wanted Behind)
unless code.Ok c text options e st = hand_on c text options st
unless other c text options e st = hand_on e.code e.text e.options st

abbrev pub behind_last : {W : Type 0} → Code → Text → List Pair → Conclusion → (State W) → Res W (Wanted Behind)
behind_last c text options e st = unless e.code c text options e st

-- ---- handlers

-- the error code among options; it counts for an error alone
abbrev pub error_code_of : List Pair → Text
error_code_of [] = codes "NONE"
error_code_of (p ∷ ps) = if bytes_eq p.key (codes "-errorcode") then p.value else error_code_of ps

-- A handler's first variable gets the result, its second the options.
abbrev pub note_both : {W : Type 0} → List Text → Text → List Pair → (State W) → Res W Text
note_both names text options st = bind (note (slice_get names 0) text st) (λ t s1. note (slice_get names 1) (list_text (option_words options)) s1)

abbrev pub outcome : Code → Text → List Pair → Conclusion
outcome c text options = record { code = c; text = text; options = options }

-- How noting ended: as it should, or with an outcome of its own.
abbrev pub settling : Ending Text → Ending (Option Conclusion)
settling (Done t) = Done None
settling (Left c text options) = Done (Some (outcome c text options))
settling Budget = Budget
settling (Exit n) = Exit n

abbrev pub settled : {W : Type 0} → Res W Text → Res W (Option Conclusion)
settled r = record { ending = settling r.ending; after = r.after; events = r.events }

-- Then its script runs. Where a variable can't be set, that error is the outcome, as one of the script.
abbrev pub started_by : {W : Type 0} → Text → Option Text → Option Conclusion → (State W) → Res W (Wanted Behind)
started_by script finally None st = done (Run script (behind.Handler finally)) st
started_by script finally (Some e) st = at_last finally e st

abbrev pub handler_wanted : {W : Type 0} → Handler → Option Text → Text → List Pair → (State W) → Res W (Wanted Behind)
handler_wanted h finally text options st = bind (settled (note_both h.names text options st)) (started_by h.script finally)

-- the handler that is for the outcome, or none
abbrev pub handled : {W : Type 0} → Option Handler → Option Text → Conclusion → (State W) → Res W (Wanted Behind)
handled None finally e st = at_last finally e st
handled (Some h) finally e st = handler_wanted h finally e.text e.options st

-- the first handler that fits
abbrev pub handled_by : {W : Type 0} → Handlers → Conclusion → (State W) → Res W (Wanted Behind)
handled_by said e st = handled (handler_for e.code (error_code_of e.options) said.handlers) said.finally e st

-- Behind the body the words say what is done.
abbrev pub behind_body : {W : Type 0} → Text → List Text → Conclusion → (State W) → Res W (Wanted Behind)
behind_body call words e st = bind (of_answer (handlers_of call words) st) (λ said s1. handled_by said e s1)
