use Rattle.std.proofs.Common.{◌≡◌, ◌-◌, ◌++◌, take, drop}
use Rattle.tclv_reply.specs.Replies.{Grows}
use Rattle.tclv_lists.specs.Making.{times}
use Rattle.tclv_lists.proofs.making.push_times.Given as goal

abbrev pub invariant-loop-turn : goal.invariant-loop-turn
invariant-loop-turn l = record { grows : Grows l.initial.store l.store; pushed : l.store.stack ≡ l.initial.store.stack ++ times l.turn (take (l.to - l.from) (drop l.from l.initial.store.stack)) }
