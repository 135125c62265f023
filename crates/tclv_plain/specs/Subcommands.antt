-- Commands with subcommands: the word behind the word of the call names one.
use Rattle.std.specs.Prelude.{Bool, if◌then◌else◌, List, [], ◌∷◌, codes, Option, Some, None}
use Rattle.tclv_model.specs.declared.messages.MessageId.TheVariants as message
use Rattle.tclv_model.specs.declared.error_codes.ErrorCode.TheVariants.{NoCode}
use Rattle.tclv_model.specs.declared.usages.Usage.{Usage}
use Rattle.tclv_model.specs.Usages.{usage_of}
use Rattle.tclv_engine.specs.State.{Text, State}
use Rattle.tclv_engine.specs.Results.{Res, Outcome, raise}
use Rattle.tclv_engine.specs.Usages.{usage}

-- 1 for yes, 0 for no
abbrev pub flag : Bool → Text
flag is = if is then codes "1" else codes "0"

-- The error that a command has no such subcommand.
abbrev pub no_subcommand : {W A : Type 0} → Text → State W → Res W A
no_subcommand sub st = raise message.UnknownSubcommand sub [] NoCode st

-- The subcommand has one argument; with other words its usage is the error.
abbrev pub with_one : {W : Type 0} → Usage → (Text → State W → Res W Outcome) → List Text → State W → Res W Outcome
with_one expected row (word ∷ sub ∷ a ∷ []) st = row a st
with_one expected row words st = usage (usage_of expected) words st

-- It has two.
abbrev pub with_two : {W : Type 0} → Usage → (Text → Text → State W → Res W Outcome) → List Text → State W → Res W Outcome
with_two expected row (word ∷ sub ∷ a ∷ b ∷ []) st = row a b st
with_two expected row words st = usage (usage_of expected) words st

-- It has one, and may have another.
abbrev pub with_more : {W : Type 0} → Usage → (Text → Option Text → State W → Res W Outcome) → List Text → State W → Res W Outcome
with_more expected row (word ∷ sub ∷ a ∷ []) st = row a None st
with_more expected row (word ∷ sub ∷ a ∷ b ∷ []) st = row a (Some b) st
with_more expected row words st = usage (usage_of expected) words st
