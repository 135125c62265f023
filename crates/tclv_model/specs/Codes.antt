-- The numbers of the codes that commands end with.
use Rattle.std.specs.Prelude.{ℤ, pos}
use Rattle.tclv_model.specs.declared.outcomes.Code.{Code}
use Rattle.tclv_model.specs.declared.outcomes.Code.TheVariants as code

abbrev pub code_number : Code → ℤ
code_number code.Ok = pos 0
code_number code.Error = pos 1
code_number code.Return = pos 2
code_number code.Break = pos 3
code_number code.Continue = pos 4
code_number (code.Other n) = n
