use Rattle.std.proofs.Common.{◌-◌, take, drop}
use Rattle.tclv_lists.proofs.RemoveLemmas.{MarkedSoFar}
use Rattle.tclv_lists.proofs.changing.mark_places.Given as goal

abbrev pub invariant-loop-at : goal.invariant-loop-at
invariant-loop-at l = let s = l.initial.store.stack in MarkedSoFar (take (l.to - l.from) (drop l.from s)) (take (l.to - l.at) (drop l.at s)) l.len l.marks.items l.initial.store l.store
