use Rattle.std.proofs.Common.{drop}
use Rattle.tclv_plain.specs.UnsetRows.{unset_each}
use Rattle.tclv_plain.proofs.LinkLemmas.{Links}
use Rattle.tclv_plain.proofs.unset_commands.unset_each.Given as goal

abbrev pub invariant-loop-name : goal.invariant-loop-name
invariant-loop-name g l = Links (unset_each l.complains (drop l.from l.fn.machine.values.store.stack)) (unset_each l.complains (drop l.name l.fn.machine.values.store.stack)) l.fn.machine l.machine
