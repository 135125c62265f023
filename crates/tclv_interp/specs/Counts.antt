-- How many scripts one command wants.
use Rattle.std.specs.Prelude.{◌≡◌, ℕ, ◌≤◌}
use Rattle.tclv_engine.specs.Plans.{Wanted}
use Rattle.tclv_engine.specs.Evaluation.{perform}
use Rattle.tclv_control.specs.declared.behind.Behind.{Behind}
use Rattle.tclv_interp.specs.Commands.{Evaluator, State, shell}

-- Three scripts one behind another are enough for what a command wants.
abbrev pub ThreeAreEnough : Evaluator → Wanted Behind → State → Type 0
ThreeAreEnough ev p st = (left : ℕ) → 3 ≤ left → perform left shell ev p st ≡ perform 3 shell ev p st
