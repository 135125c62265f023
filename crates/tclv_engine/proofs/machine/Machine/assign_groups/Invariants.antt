use Rattle.tclv_engine.specs.EachSteps.{groups_at}
use Rattle.tclv_engine.proofs.ForeachLemmas.{GroupsAssigned}
use Rattle.tclv_engine.proofs.machine.Machine.assign_groups.Given as goal

abbrev pub invariant-loop-i : goal.invariant-loop-i
invariant-loop-i g l = GroupsAssigned l.turn (groups_at l.fn.self.values.store.stack l.groups) l.fn.self l.self l.i
