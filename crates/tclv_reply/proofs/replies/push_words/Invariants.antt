use Rattle.std.proofs.Common.{◌≡◌, ◌-◌, ◌++◌, take, drop}
use Rattle.tclv_reply.specs.Replies.{Grows}
use Rattle.tclv_reply.proofs.replies.push_words.Given as goal

abbrev pub invariant-loop-at : goal.invariant-loop-at
invariant-loop-at l = record { grows : Grows l.initial.store l.store; pushed : l.store.stack ≡ l.initial.store.stack ++ take (l.at - l.from) (drop l.from l.initial.store.stack) }
