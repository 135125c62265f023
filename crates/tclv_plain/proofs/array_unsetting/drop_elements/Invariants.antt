use Rattle.std.specs.Str.{chars}
use Rattle.tclv_plain.proofs.ArrayLemmas.{Drops}
use Rattle.tclv_plain.proofs.array_unsetting.drop_elements.Given as goal

abbrev pub invariant-loop-index : goal.invariant-loop-index
invariant-loop-index g l = Drops (chars l.array) l.indices l.index-index l.fn.machine l.machine
