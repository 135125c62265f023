-- The rows of `foreach` and `lmap`.
use Rattle.std.specs.Prelude.{ℕ, ◌-◌, ◌%◌, ◌==◌, ◌&&◌, Bool, true, false, nat_le, if◌then◌else◌, List, [], length, take, drop}
use Rattle.tclv_model.specs.declared.messages.MessageId.{MessageId}
use Rattle.tclv_model.specs.declared.messages.MessageId.TheVariants.{EmptyForeachNames, EmptyLmapNames}
use Rattle.tclv_model.specs.declared.usages.Usage.{Usage}
use Rattle.tclv_model.specs.declared.usages.Usage.TheVariants as command
use Rattle.tclv_model.specs.Usages.{usage_of}
use Rattle.tclv_engine.specs.State.{Text, State}
use Rattle.tclv_engine.specs.Results.{Res, bind, done}
use Rattle.tclv_engine.specs.Usages.{usage}
use Rattle.tclv_engine.specs.Answers.{last_of}
use Rattle.tclv_engine.specs.EachLoops.{groups_of}
use Rattle.tclv_engine.specs.Plans.{Wanted, Each}

-- so many words are the word of the call, pairs of a list of names and a list of values, and a body
abbrev pub is_paired : ℕ → Bool
is_paired n = nat_le 4 n && (n % 2 == 0)

-- the words of the pairs
abbrev pub pairs_of : List Text → List Text
pairs_of words = drop 1 (take (length words - 1) words)

-- A loop over the lists, which are read first; the last word is its body. The message is that of a list of names without a name.
abbrev pub each : {W K : Type 0} → MessageId → Bool → List Text → (State W) → Res W (Wanted K)
each empty keep words st = bind (groups_of empty [] (pairs_of words) st) (λ groups s1. done (Each groups (last_of words) keep) s1)

-- The same, where the words are pairs and a body. Other words fit no form of the command; `form` says which of the two it is.
abbrev pub wanted_each : {W K : Type 0} → Usage → MessageId → Bool → List Text → (State W) → Res W (Wanted K)
wanted_each form empty keep words st = if is_paired (length words) then each empty keep words st else usage (usage_of form) words st

-- `foreach varList list ?varList list ...? command`: the results of its bodies aren't kept.
abbrev pub wanted_foreach : {W K : Type 0} → List Text → (State W) → Res W (Wanted K)
wanted_foreach words st = wanted_each command.Foreach EmptyForeachNames false words st

-- `lmap varList list ?varList list ...? command`: the results of its bodies are kept.
abbrev pub wanted_lmap : {W K : Type 0} → List Text → (State W) → Res W (Wanted K)
wanted_lmap words st = wanted_each command.Lmap EmptyLmapNames true words st
