use Rattle.std.specs.Str.{chars}
use Rattle.tclv_plain.proofs.ArrayLemmas.{Collects}
use Rattle.tclv_plain.proofs.array_commands.collect.Given as goal

abbrev pub invariant-loop-index : goal.invariant-loop-index
invariant-loop-index g l = Collects (chars l.array) l.indices l.index-index l.fn.machine l.machine
