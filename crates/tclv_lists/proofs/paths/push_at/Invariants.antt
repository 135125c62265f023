use Rattle.std.proofs.Common.{◌≡◌, ◌-◌, ◌<◌, [], length, take, drop, get_or}
use Rattle.tclv_reply.specs.Replies.{Grows}
use Rattle.tclv_lists.specs.Paths.{element_at}
use Rattle.tclv_lists.proofs.paths.push_at.Given as goal

abbrev pub invariant-loop-index : goal.invariant-loop-index
invariant-loop-index l = let s = l.initial.store.stack in record { came : element_at (get_or s l.list []) (take (l.to - l.from) (drop l.from s)) ≡ element_at (get_or l.store.stack l.at []) (take (l.to - l.index) (drop l.index s)); grows : Grows l.initial.store l.store; there : l.at < length l.store.stack }
