use Rattle.std.proofs.Common.{◌≡◌, ◌++◌, take}
use Rattle.tclv_reply.specs.Replies.{Grows}
use Rattle.tclv_reply.proofs.replies.push_all.Given as goal

-- So many texts are pushed.
abbrev pub invariant-loop-text : goal.invariant-loop-text
invariant-loop-text l = record { grows : Grows l.initial.store l.store; pushed : l.store.stack ≡ l.initial.store.stack ++ take l.text-index l.texts }
