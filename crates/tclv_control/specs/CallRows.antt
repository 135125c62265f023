-- The row of a call of a procedure.
use Rattle.std.specs.Prelude.{List, [], ◌∷◌}
use Rattle.tclv_value.specs.Procedures.{Procedure}
use Rattle.tclv_ctl.specs.Arguments as binding
use Rattle.tclv_engine.specs.State.{Text, State}
use Rattle.tclv_engine.specs.Results.{Res, bind, done}
use Rattle.tclv_engine.specs.Usages.{call_word}
use Rattle.tclv_engine.specs.DataAnswers.{of_answer, arguments}
use Rattle.tclv_engine.specs.Plans.{Wanted, Called}

-- The parameters get the words that stand behind the name of the procedure, and its body runs.
abbrev pub wanted_call : {W K : Type 0} → Procedure → K → List Text → (State W) → Res W (Wanted K)
wanted_call d behind words st =
    bind (of_answer (binding.arguments (call_word words ∷ []) d (arguments words)) st) (λ texts s1. done (Called d texts behind) s1)
