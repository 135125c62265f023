use Rattle.std.proofs.Common.{◌≤◌, ◌-◌, take, drop}
use Rattle.tclv_engine.proofs.ForeachLemmas.{GroupsRead}
use Rattle.tclv_engine.proofs.machine.Machine.groups.Given as goal

-- The words before a place were read.
abbrev pub invariant-pairs : goal.invariant-pairs
invariant-pairs g l = record {
  after : l.from ≤ l.at;
  before : l.at ≤ l.to;
  read : GroupsRead l.empty (take (l.to - l.from) (drop l.from l.fn.self.values.store.stack)) l.fn.self l.self l.groups.items.items (take (l.to - l.at) (drop l.at l.fn.self.values.store.stack));
}

abbrev pub decreases-pairs : goal.decreases-pairs
decreases-pairs g l = l.to - l.at
