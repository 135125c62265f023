-- The rows of `while` and `for`.
use Rattle.std.specs.Prelude.{List, [], ◌∷◌}
use Rattle.tclv_model.specs.declared.usages.Usage.TheVariants as command
use Rattle.tclv_model.specs.Usages.{usage_of}
use Rattle.tclv_engine.specs.State.{Text, State}
use Rattle.tclv_engine.specs.Results.{Res, done}
use Rattle.tclv_engine.specs.Usages.{usage}
use Rattle.tclv_engine.specs.Plans.{Wanted, Tested, Started}

-- `while test command`: a loop with this test and this body.
abbrev pub wanted_while : {W K : Type 0} → List Text → (State W) → Res W (Wanted K)
wanted_while (word ∷ test ∷ body ∷ []) st = done (Tested test body) st
wanted_while words st = usage (usage_of command.While) words st

-- `for start test next command`: a loop with this start, this test, this script between two turns and this body.
abbrev pub wanted_for : {W K : Type 0} → List Text → (State W) → Res W (Wanted K)
wanted_for (word ∷ start ∷ test ∷ next ∷ body ∷ []) st = done (Started start test next body) st
wanted_for words st = usage (usage_of command.For) words st
