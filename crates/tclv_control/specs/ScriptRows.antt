-- The rows of `eval` and `expr`.
use Rattle.std.specs.Prelude.{List, ◌∷◌}
use Rattle.tclv_model.specs.declared.usages.Usage.TheVariants as command
use Rattle.tclv_model.specs.Usages.{usage_of}
use Rattle.tclv_lists.specs.Joining.{concatenated}
use Rattle.tclv_engine.specs.State.{Text, State}
use Rattle.tclv_engine.specs.Results.{Res, done}
use Rattle.tclv_engine.specs.Usages.{usage}
use Rattle.tclv_engine.specs.Plans.{Wanted, Run, Value}

-- `eval arg ?arg ...?`: the words are joined as `concat` joins them, and the text runs as a script, whose outcome is handed on.
abbrev pub wanted_eval : {W K : Type 0} → K → List Text → (State W) → Res W (Wanted K)
wanted_eval hand_on (word ∷ arg ∷ args) st = done (Run (concatenated (arg ∷ args)) hand_on) st
wanted_eval hand_on words st = usage (usage_of command.Eval) words st

-- `expr arg ?arg ...?`: the words are joined as `concat` joins them, and the result is the value of the text as an expression.
abbrev pub wanted_expr : {W K : Type 0} → List Text → (State W) → Res W (Wanted K)
wanted_expr (word ∷ arg ∷ args) st = done (Value (concatenated (arg ∷ args))) st
wanted_expr words st = usage (usage_of command.Expr) words st
