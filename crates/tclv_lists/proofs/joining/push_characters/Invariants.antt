use Rattle.std.proofs.Common.{◌≡◌, ◌++◌, map}
use Rattle.tclv_lists.specs.Joining.{single}
use Rattle.tclv_reply.specs.Replies.{Grows}
use Rattle.tclv_lists.proofs.joining.push_characters.Given as goal

abbrev pub invariant-loop-c : goal.invariant-loop-c
invariant-loop-c l = record {
  grows : Grows l.initial.store l.store;
  pushed : l.store.stack ≡ l.initial.store.stack ++ map single l.yielded;
}
