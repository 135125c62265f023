-- The row of each command of control.
use Rattle.std.specs.Prelude.{List}
use Rattle.tclv_engine.specs.State.{Text, State}
use Rattle.tclv_engine.specs.Results.{Res}
use Rattle.tclv_engine.specs.Plans.{Wanted}
use Rattle.tclv_control.specs.declared.control.ControlCommand.{ControlCommand}
use Rattle.tclv_control.specs.declared.control.ControlCommand.TheVariants as command
use Rattle.tclv_control.specs.WhileRows.{wanted_while, wanted_for}
use Rattle.tclv_control.specs.EachRows.{wanted_foreach, wanted_lmap}
use Rattle.tclv_control.specs.ScriptRows.{wanted_eval, wanted_expr}
use Rattle.tclv_control.specs.SwitchRows.{wanted_switch}
use Rattle.tclv_control.specs.IfRows.{wanted_if}
use Rattle.tclv_control.specs.LevelRows.{wanted_uplevel}

-- What a command of control wants done, at its words. `hand_on` stands behind a script whose outcome is that of the command.
abbrev pub control_wanted : {W K : Type 0} → K → ControlCommand → List Text → (State W) → Res W (Wanted K)
control_wanted hand_on command.Eval words st = wanted_eval hand_on words st
control_wanted hand_on command.Expr words st = wanted_expr words st
control_wanted hand_on command.For words st = wanted_for words st
control_wanted hand_on command.Foreach words st = wanted_foreach words st
control_wanted hand_on command.If words st = wanted_if words st
control_wanted hand_on command.Lmap words st = wanted_lmap words st
control_wanted hand_on command.Switch words st = wanted_switch hand_on words st
control_wanted hand_on command.Uplevel words st = wanted_uplevel hand_on words st
control_wanted hand_on command.While words st = wanted_while words st
