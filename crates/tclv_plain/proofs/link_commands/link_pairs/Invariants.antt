use Rattle.std.proofs.Common.{◌+◌, ◌*◌, drop}
use Rattle.tclv_vars.specs.declared.places.Root.TheVariants.{Level}
use Rattle.tclv_plain.specs.LinkRows.{link_pairs}
use Rattle.tclv_plain.proofs.LinkLemmas.{Links}
use Rattle.tclv_plain.proofs.link_commands.link_pairs.Given as goal

abbrev pub invariant-loop-i : goal.invariant-loop-i
invariant-loop-i g l = Links (link_pairs (Level l.level) (drop l.from l.fn.machine.values.store.stack)) (link_pairs (Level l.level) (drop (l.from + 2 * l.i) l.fn.machine.values.store.stack)) l.fn.machine l.machine
