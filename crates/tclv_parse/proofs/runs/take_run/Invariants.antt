use Rattle.std.proofs.Common.{ℕ, length}
use Rattle.tclv_parse.proofs.RunLaws.{Passes}
use Rattle.tclv_parse.proofs.runs.take_run.Given as goal

abbrev pub invariant-run : goal.invariant-run
invariant-run l = (k : ℕ) × Passes l.fn.run l.fn.cursor l.end l.cursor k

abbrev pub decreases-run : goal.decreases-run
decreases-run l = length l.cursor
