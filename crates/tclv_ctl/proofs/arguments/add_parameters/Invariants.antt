use Rattle.std.proofs.Common.{◌≡◌, ◌++◌, take}
use Rattle.std.specs.List.{flat_map}
use Rattle.tclv_ctl.specs.Arguments.{shown}
use Rattle.tclv_ctl.proofs.arguments.add_parameters.Given as goal

-- So many parameters are added.
abbrev pub invariant-loop-param : goal.invariant-loop-param
invariant-loop-param l = l.usage ≡ l.initial.usage ++ flat_map shown (take l.param-index l.params)
