-- The rows of `break` and `continue`.
use Rattle.std.specs.Prelude.{List, [], ◌∷◌, codes}
use Rattle.tclv_model.specs.declared.outcomes.Code.TheVariants as code
use Rattle.tclv_model.specs.declared.usages.Usage.TheVariants as command
use Rattle.tclv_model.specs.Usages.{usage_of}
use Rattle.tclv_engine.specs.State.{Text, State}
use Rattle.tclv_engine.specs.Results.{Res, Outcome, Left, ends, code_options}
use Rattle.tclv_engine.specs.Usages.{usage}

-- `break`: the loop around is to end.
abbrev pub row_break : {W : Type 0} → List Text → (State W) → Res W Outcome
row_break (word ∷ []) st = ends (Left code.Break [] (code_options (codes "3"))) st
row_break words st = usage (usage_of command.Break) words st

-- `continue`: the loop around is to go on with its next turn.
abbrev pub row_continue : {W : Type 0} → List Text → (State W) → Res W Outcome
row_continue (word ∷ []) st = ends (Left code.Continue [] (code_options (codes "4"))) st
row_continue words st = usage (usage_of command.Continue) words st
