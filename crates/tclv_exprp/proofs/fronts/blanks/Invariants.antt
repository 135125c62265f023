use Rattle.std.proofs.Common.{◌≡◌, ◌≤◌, length}
use Rattle.tclv_exprp.specs.Fronts.{blanks}
use Rattle.tclv_exprp.proofs.fronts.blanks.Given as goal

abbrev pub invariant-blanks : goal.invariant-blanks
invariant-blanks l = record { behind : blanks l.fn.cursor ≡ blanks l.cursor; left : length l.cursor ≤ length l.fn.cursor }

abbrev pub decreases-blanks : goal.decreases-blanks
decreases-blanks l = length l.cursor
