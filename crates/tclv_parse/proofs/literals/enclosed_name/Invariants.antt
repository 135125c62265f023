use Rattle.std.proofs.Common.{ℕ, length}
use Rattle.tclv_parse.specs.declared.runs.Run.TheVariants as run
use Rattle.tclv_parse.proofs.RunLaws.{Passes}
use Rattle.tclv_parse.proofs.literals.enclosed_name.Given as goal

abbrev pub invariant-name : goal.invariant-name
invariant-name l = (k : ℕ) × Passes run.Enclosed l.fn.cursor run.Enclosed l.cursor k

abbrev pub decreases-name : goal.decreases-name
decreases-name l = length l.cursor
