-- The error of a code that has so many parts, in the code.
use Rattle.std.specs.Prelude.{ℕ, zero, suc, List, []}
use Rattle.tclv_model.specs.declared.messages.MessageId.TheVariants as message
use Rattle.tclv_model.specs.declared.error_codes.ErrorCode.TheVariants.{NoCode}
use Rattle.tclv_model.specs.ErrorCodes.{error_code}
use Rattle.tclv_model.specs.Message.{text_of}
use Rattle.tclv_engine.specs.declared.endings.End.{End}
use Rattle.tclv_engine.specs.State.{Text}
use Rattle.tclv_engine.specs.Answers.{Raises}

-- the call raises the error of a code of so many parts
abbrev pub RaisesThrown : ℕ → Text → Text → List Text → End → Type 0
RaisesThrown zero errorcode text stack e = Raises (text_of message.EmptyErrorType [] []) (error_code NoCode []) stack e
RaisesThrown (suc n) errorcode text stack e = Raises text errorcode stack e
