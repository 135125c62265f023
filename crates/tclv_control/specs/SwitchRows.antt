-- The row of `switch`.
use Rattle.std.specs.Prelude.{List, [], Option, Some, None}
use Rattle.tclv_ctl.specs.Switching as control
use Rattle.tclv_engine.specs.State.{Text, State}
use Rattle.tclv_engine.specs.Results.{Res, bind, done, plain}
use Rattle.tclv_engine.specs.Usages.{call_word}
use Rattle.tclv_engine.specs.DataAnswers.{of_answer, arguments}
use Rattle.tclv_engine.specs.Plans.{Wanted, Finished, Run}

-- the body of the clause that is chosen, if one is
abbrev pub body_of : control.Choice → Option Text
body_of asked = control.fitting_body asked.manner asked.string asked.clauses

-- A chosen body runs, and its outcome is handed on. Where none is chosen, the result is empty.
abbrev pub run_of : {K : Type 0} → K → Option Text → Wanted K
run_of hand_on (Some body) = Run body hand_on
run_of hand_on None = Finished (plain [])

-- `switch ?option ...? string ?pattern body ...? ?default body?`: what the words ask for, and the body that is chosen
abbrev pub wanted_switch : {W K : Type 0} → K → List Text → (State W) → Res W (Wanted K)
wanted_switch hand_on words st =
    bind (of_answer (control.row_switch (call_word words) (arguments words)) st) (λ asked s1. done (run_of hand_on (body_of asked)) s1)
