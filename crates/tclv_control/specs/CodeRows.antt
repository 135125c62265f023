-- The row of each command of codes.
use Rattle.std.specs.Prelude.{List}
use Rattle.tclv_engine.specs.State.{Text, State}
use Rattle.tclv_engine.specs.Results.{Res}
use Rattle.tclv_engine.specs.Plans.{Wanted}
use Rattle.tclv_control.specs.declared.behind.Behind.{Behind}
use Rattle.tclv_control.specs.declared.codes.CodeCommand.{CodeCommand}
use Rattle.tclv_control.specs.declared.codes.CodeCommand.TheVariants as command
use Rattle.tclv_control.specs.CatchRows.{wanted_catch}
use Rattle.tclv_control.specs.ErrorRows.{wanted_error, wanted_throw}
use Rattle.tclv_control.specs.ReturnRows.{wanted_return}
use Rattle.tclv_control.specs.TryRows.{wanted_try}

abbrev pub code_wanted : {W : Type 0} → CodeCommand → List Text → (State W) → Res W (Wanted Behind)
code_wanted command.Catch words st = wanted_catch words st
code_wanted command.Error words st = wanted_error words st
code_wanted command.Return words st = wanted_return words st
code_wanted command.Throw words st = wanted_throw words st
code_wanted command.Try words st = wanted_try words st
