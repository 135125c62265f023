-- The errors of texts that are no expressions.
use Rattle.std.specs.Prelude.{◌≡◌, ℕ, Bool, List, [], take, drop}
use Rattle.std.specs.List.{prefix_len}
use Rattle.std.specs.Str.{chars}
use Rattle.std.specs.Prelude.{nat_lt}
use Rattle.tclv_exprp.specs.declared.faults.ExprFault.{ExprFault}
use Rattle.tclv_exprp.specs.declared.faults.ExprFault.TheVariants as f
use Rattle.tclv_model.specs.declared.messages.MessageId.TheVariants as message
use Rattle.tclv_model.specs.declared.error_codes.ErrorCode.TheVariants.{NoCode, Overflow}
use Rattle.tclv_engine.specs.State.{Text, State}
use Rattle.tclv_model.specs.Message.{text_of}
use Rattle.tclv_engine.specs.declared.endings.End.{End}
use Rattle.tclv_engine.specs.declared.endings.End.TheVariants as end
use Rattle.tclv_engine.specs.Results.{Res, raise}
use Rattle.tclv_model.specs.ErrorCodes.{error_code}
use Rattle.tclv_engine.specs.Answers.{Raises}
use Rattle.tclv_engine.specs.Names.{bytes_of}

abbrev pub is_ascii : ℕ → Bool
is_ascii b = nat_lt b 128

-- as many of the bytes, from the first on, as are ASCII characters
abbrev pub ascii_front : List ℕ → List ℕ
ascii_front bytes = take (prefix_len is_ascii bytes) bytes

-- The word or number that stands at a place of the text and is so many bytes long: ASCII characters.
abbrev pub named_at : ℕ → ℕ → Text → Text
named_at at len text = ascii_front (take len (drop at (bytes_of text)))

-- The error of a fault. A message names the whole text, or the word or number at fault. No number is too large for a reader, and no memory
-- is wanted here.
abbrev pub refused : {W A : Type 0} → Text → ExprFault → (State W) → Res W A
refused text (f.Syntax at) st = raise message.ExpressionSyntax text [] NoCode st
refused text (f.Bareword at len) st = raise message.InvalidBareword (named_at at len text) text NoCode st
refused text (f.UnknownFunction at len) st = raise message.UnknownMathFunction (named_at at len text) [] NoCode st
refused text (f.WrongCount at len) st = raise message.WrongMathFunctionArguments (named_at at len text) [] NoCode st
refused text (f.FloatLiteral at len) st = raise message.FloatValue (named_at at len text) [] NoCode st
refused text f.TooDeep st = raise message.ExpressionTooDeep text [] NoCode st
refused text f.TooLarge st = raise message.IntegerTooLarge [] [] Overflow st
refused text f.NoMemory st = raise message.ExpressionSyntax text [] NoCode st

-- what the error becomes in the code, where memory may run out
abbrev pub Refuses : ExprFault → Text → List Text → End → Type 0
Refuses (f.Syntax at) text stack e = Raises (text_of message.ExpressionSyntax text (chars [])) (error_code NoCode text) stack e
Refuses (f.Bareword at len) text stack e = Raises (text_of message.InvalidBareword (named_at at len text) text) (error_code NoCode (named_at at len text)) stack e
Refuses (f.UnknownFunction at len) text stack e = Raises (text_of message.UnknownMathFunction (named_at at len text) (chars [])) (error_code NoCode (named_at at len text)) stack e
Refuses (f.WrongCount at len) text stack e = Raises (text_of message.WrongMathFunctionArguments (named_at at len text) (chars [])) (error_code NoCode (named_at at len text)) stack e
Refuses (f.FloatLiteral at len) text stack e = Raises (text_of message.FloatValue (named_at at len text) (chars [])) (error_code NoCode (named_at at len text)) stack e
Refuses f.TooDeep text stack e = Raises (text_of message.ExpressionTooDeep text (chars [])) (error_code NoCode text) stack e
Refuses f.TooLarge text stack e = Raises (text_of message.IntegerTooLarge (chars []) (chars [])) (error_code Overflow (chars [])) stack e
Refuses f.NoMemory text stack e = e ≡ end.Memory
