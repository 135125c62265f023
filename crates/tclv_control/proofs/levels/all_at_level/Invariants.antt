use Rattle.std.proofs.Common.{◌≡◌, take, map}
use Rattle.tclv_control.specs.Levels.{at_level}
use Rattle.tclv_control.proofs.levels.all_at_level.Given as goal

-- So many options are there.
abbrev pub invariant-loop-k : goal.invariant-loop-k
invariant-loop-k l = l.made ≡ map (at_level l.level) (take l.k l.options)
