use Rattle.std.proofs.Common.{◌≡◌, ◌≤◌, ◌+◌, ◌++◌, length}
use Rattle.tclv_parse.specs.Readings.{valued_end}
use Rattle.tclv_parse.specs.Grammar.{braced}
use Rattle.tclv_parse.proofs.literals.braced.Given as goal

abbrev pub invariant-raw : goal.invariant-raw
invariant-raw l =
    record {
      reads : (braced l.fn.cursor 0).1 ≡ valued_end (λ x. l.text ++ x) (braced l.cursor l.level).1;
      room : l.level + length l.cursor ≤ length l.fn.cursor;
    }

abbrev pub decreases-raw : goal.decreases-raw
decreases-raw l = length l.cursor
