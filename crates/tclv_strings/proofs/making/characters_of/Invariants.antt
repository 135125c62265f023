use Rattle.std.proofs.Common.{◌≡◌}
use Rattle.tclv_strings.proofs.making.characters_of.Given as goal

abbrev pub invariant-loop-c : goal.invariant-loop-c
invariant-loop-c l = l.characters.items ≡ l.yielded
