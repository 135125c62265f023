-- An outcome that is handed on as that of a command.
use Rattle.std.specs.Prelude.{List}
use Rattle.tclv_model.specs.declared.outcomes.Code.{Code}
use Rattle.tclv_model.specs.declared.outcomes.Code.TheVariants as code
use Rattle.tclv_model.specs.declared.outcomes.Pair.{Pair}
use Rattle.tclv_engine.specs.State.{Text, State}
use Rattle.tclv_engine.specs.Results.{Res, Left, done, ends}
use Rattle.tclv_engine.specs.Plans.{Wanted, Finished}

-- An ok is a result, and each other code ends the command.
abbrev pub hand_on : {W K : Type 0} → Code → Text → List Pair → (State W) → Res W (Wanted K)
hand_on code.Ok text options st = done (Finished (record { text = text; options = options })) st
hand_on code.Error text options st = ends (Left code.Error text options) st
hand_on code.Return text options st = ends (Left code.Return text options) st
hand_on code.Break text options st = ends (Left code.Break text options) st
hand_on code.Continue text options st = ends (Left code.Continue text options) st
hand_on (code.Other n) text options st = ends (Left (code.Other n) text options) st
