-- Words that fit no form of a command.
use Rattle.std.specs.Prelude.{List, [], ◌∷◌}
use Rattle.tclv_model.specs.declared.messages.MessageId.TheVariants as message
use Rattle.tclv_model.specs.declared.error_codes.ErrorCode.TheVariants.{WrongArguments}
use Rattle.tclv_engine.specs.State.{Text, State}
use Rattle.tclv_engine.specs.Results.{Res, raise}

-- the word of the call, which is the first
abbrev pub call_word : List Text → Text
call_word [] = []
call_word (word ∷ words) = word

-- The error of words that fit no form of a command, whose usage has `rest` behind the word of the call.
abbrev pub usage : {W A : Type 0} → Text → List Text → (State W) → Res W A
usage rest words st = raise message.WrongArguments (call_word words) rest WrongArguments st
