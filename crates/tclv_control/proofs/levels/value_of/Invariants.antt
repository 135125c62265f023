use Rattle.std.proofs.Common.{◌≡◌, drop}
use Rattle.tclv_control.specs.Levels.{value_of}
use Rattle.tclv_control.proofs.levels.value_of.Given as goal

-- So many options have other keys.
abbrev pub invariant-loop-k : goal.invariant-loop-k
invariant-loop-k l = value_of l.key l.options ≡ value_of l.key (drop l.k l.options)
