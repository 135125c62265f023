use Rattle.std.proofs.Common.{◌*◌, length, drop}
use Rattle.tclv_engine.specs.EachSteps.{group_at}
use Rattle.tclv_engine.proofs.ListLemmas.{Assigns}
use Rattle.tclv_engine.proofs.machine.Machine.assign_group.Given as goal

abbrev pub invariant-loop-name : goal.invariant-loop-name
invariant-loop-name g l =
    let at = group_at l.fn.self.values.store.stack l.group in
    Assigns at.0 (drop (l.turn * length at.0) at.1) l.fn.self l.self l.name
