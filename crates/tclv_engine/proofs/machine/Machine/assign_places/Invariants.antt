use Rattle.std.proofs.Common.{◌-◌, [], take, drop, get_or}
use Rattle.tclv_engine.specs.ListAssignment.{listed}
use Rattle.tclv_engine.proofs.ListLemmas.{Assigns}
use Rattle.tclv_engine.proofs.machine.Machine.assign_places.Given as goal

abbrev pub invariant-loop-i : goal.invariant-loop-i
invariant-loop-i g l = Assigns (take (l.to - l.from) (drop l.from l.fn.self.values.store.stack)) (listed (get_or l.fn.self.values.store.stack l.list [])) l.fn.self l.self (l.i - l.from)
