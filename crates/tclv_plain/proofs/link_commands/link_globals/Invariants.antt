use Rattle.std.proofs.Common.{drop}
use Rattle.tclv_plain.specs.LinkRows.{link_globals}
use Rattle.tclv_plain.proofs.LinkLemmas.{Links}
use Rattle.tclv_plain.proofs.link_commands.link_globals.Given as goal

abbrev pub invariant-loop-name : goal.invariant-loop-name
invariant-loop-name g l = Links (link_globals (drop l.from l.fn.machine.values.store.stack)) (link_globals (drop l.name l.fn.machine.values.store.stack)) l.fn.machine l.machine
