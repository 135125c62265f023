-- The rows of `error` and `throw`.
use Rattle.std.specs.Prelude.{List, [], ◌∷◌, codes}
use Rattle.tclv_model.specs.declared.messages.MessageId.TheVariants as message
use Rattle.tclv_model.specs.declared.error_codes.ErrorCode.TheVariants.{NoCode}
use Rattle.tclv_model.specs.declared.usages.Usage.TheVariants as command
use Rattle.tclv_model.specs.Usages.{usage_of}
use Rattle.tclv_model.specs.Values.{list_of}
use Rattle.tclv_engine.specs.State.{Text, State}
use Rattle.tclv_engine.specs.Results.{Res, bind, error, raise}
use Rattle.tclv_engine.specs.Usages.{usage}
use Rattle.tclv_engine.specs.DataAnswers.{of_answer}
use Rattle.tclv_engine.specs.Plans.{Wanted}

-- `error message ?errorInfo? ?errorCode?`: an error with this message. Its code is NONE where none is given. The errorInfo counts for nothing.
abbrev pub wanted_error : {W K : Type 0} → List Text → (State W) → Res W (Wanted K)
wanted_error (word ∷ text ∷ []) st = error text (codes "NONE") st
wanted_error (word ∷ text ∷ info ∷ []) st = error text (codes "NONE") st
wanted_error (word ∷ text ∷ info ∷ errorcode ∷ []) st = error text errorcode st
wanted_error words st = usage (usage_of command.Error) words st

-- an error with a message, whose code is a list of these parts
abbrev pub thrown : {W A : Type 0} → List Text → Text → Text → (State W) → Res W A
thrown [] errorcode text st = raise message.EmptyErrorType [] [] NoCode st
thrown (part ∷ parts) errorcode text st = error text errorcode st

-- the same, where the code is read
abbrev pub wanted_thrown : {W K : Type 0} → Text → Text → (State W) → Res W (Wanted K)
wanted_thrown errorcode text st = bind (of_answer (list_of errorcode) st) (λ parts s1. thrown parts errorcode text s1)

-- `throw type message`: an error with this message, whose code is the type. That is a list with an element or more.
abbrev pub wanted_throw : {W K : Type 0} → List Text → (State W) → Res W (Wanted K)
wanted_throw (word ∷ errorcode ∷ text ∷ []) st = wanted_thrown errorcode text st
wanted_throw words st = usage (usage_of command.Throw) words st
