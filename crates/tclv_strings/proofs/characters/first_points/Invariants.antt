use Rattle.std.proofs.Common.{◌≡◌, drop}
use Rattle.tclv_strings.proofs.characters.first_points.Given as goal

abbrev pub invariant-loop-k : goal.invariant-loop-k
invariant-loop-k l = l.at ≡ drop l.k l.from
