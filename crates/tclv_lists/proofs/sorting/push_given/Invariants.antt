use Rattle.std.proofs.Common.{◌≡◌, ◌++◌, map, drop}
use Rattle.tclv_reply.specs.Replies.{Grows}
use Rattle.tclv_lists.specs.Sorting.{text_in, given, entry_before}
use Rattle.tclv_lists.proofs.sorting.push_given.Given as goal

-- What is pushed, before what is still to come.
abbrev pub invariant-loop-k : goal.invariant-loop-k
invariant-loop-k l =
    let s = l.initial.store.stack in
    record {
      grows : Grows l.initial.store l.store;
      pushed : l.store.stack ++ map (text_in s) (given l.order.unique (entry_before l.order.direction) (drop l.k l.entries)) ≡ s ++ map (text_in s) (given l.order.unique (entry_before l.order.direction) l.entries);
    }
