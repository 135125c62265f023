-- What is done behind a script of a command, however it ended.
use Rattle.tclv_engine.specs.State.{State}
use Rattle.tclv_engine.specs.Results.{Res}
use Rattle.tclv_engine.specs.Plans.{Conclusion, Wanted}
use Rattle.tclv_control.specs.declared.behind.Behind.{Behind}
use Rattle.tclv_control.specs.declared.behind.Behind.TheVariants as behind
use Rattle.tclv_control.specs.HandingOn.{hand_on}
use Rattle.tclv_control.specs.CatchRows.{caught}
use Rattle.tclv_control.specs.TryRows.{at_last, behind_body, behind_last}
use Rattle.tclv_control.specs.Levels.{outcome_of}

abbrev pub finish : {W : Type 0} → Behind → Conclusion → (State W) → Res W (Wanted Behind)
finish behind.HandOn e st = hand_on e.code e.text e.options st
finish (behind.Catch name options) e st = caught name options e st
finish (behind.Body call words) e st = behind_body call words e st
finish (behind.Handler finally) e st = at_last finally e st
finish (behind.Finally c text options) e st = behind_last c text options e st
finish behind.Procedure e st = outcome_of e st
