use Rattle.std.proofs.Common.{◌≡◌}
use Rattle.std.specs.Str.{chars}
use Rattle.tclv_strings.specs.Making.{copies}
use Rattle.tclv_strings.proofs.making.copies.Given as goal

abbrev pub invariant-loop-turn : goal.invariant-loop-turn
invariant-loop-turn l = l.all ≡ copies l.turn (chars l.text)
