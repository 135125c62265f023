use Rattle.std.proofs.Common.{◌≡◌, drop, max}
use Rattle.tclv_engine.specs.EachLoops.{turn_count}
use Rattle.tclv_engine.specs.EachSteps.{groups_at}
use Rattle.tclv_engine.proofs.machine.Machine.turn_count.Given as goal

-- The most so far, and the most of the rest.
abbrev pub invariant-loop-i : goal.invariant-loop-i
invariant-loop-i g l =
    let groups = groups_at l.self.values.store.stack l.groups in
    max l.most (turn_count (drop l.i groups)) ≡ turn_count groups
