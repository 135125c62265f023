-- The whole number that a text is, or the error that it is none.
use Rattle.std.specs.Prelude.{[], Result, Ok, Err, ℤ}
use Rattle.tclv_text.specs.declared.numbers.WholeFault.{WholeFault}
use Rattle.tclv_text.specs.declared.numbers.WholeFault.TheVariants.{NotWhole, TooLarge, FloatForm}
use Rattle.tclv_text.specs.Numbers.{whole}
use Rattle.tclv_model.specs.declared.messages.MessageId.{MessageId}
use Rattle.tclv_model.specs.declared.messages.MessageId.TheVariants.{NotInteger, IntegerTooLarge}
use Rattle.tclv_model.specs.declared.error_codes.ErrorCode.{ErrorCode}
use Rattle.tclv_model.specs.declared.error_codes.ErrorCode.TheVariants.{NotNumber, Overflow}
use Rattle.tclv_engine.specs.State.{Text, State}
use Rattle.tclv_engine.specs.Results.{Res, done, raise}

-- why a text is no whole number
abbrev pub whole_message : WholeFault → MessageId
whole_message NotWhole = NotInteger
whole_message TooLarge = IntegerTooLarge
whole_message FloatForm = NotInteger

abbrev pub whole_code : WholeFault → ErrorCode
whole_code NotWhole = NotNumber
whole_code TooLarge = Overflow
whole_code FloatForm = NotNumber

-- the number that was read, or the error
abbrev pub read_whole : {W : Type 0} → Text → Result ℤ WholeFault → (State W) → Res W ℤ
read_whole text (Ok n) st = done n st
read_whole text (Err fault) st = raise (whole_message fault) text [] (whole_code fault) st

-- The whole number that a text is.
abbrev pub whole_number : {W : Type 0} → Text → (State W) → Res W ℤ
whole_number text st = read_whole text (whole text) st
