use Rattle.std.proofs.Common.{◌≡◌, ◌++◌, map}
use Rattle.std.specs.Str.{chars}
use Rattle.tclv_reply.specs.Replies.{Grows}
use Rattle.tclv_lists.specs.Searching.{shown_as, wanted}
use Rattle.tclv_lists.proofs.searching.push_found.Given as goal

-- What is pushed, before what is still to come.
abbrev pub invariant-loop-k : goal.invariant-loop-k
invariant-loop-k l =
    let shown = map (shown_as l.search.inline) in
    record {
      grows : Grows l.initial.store l.store;
      pushed : l.store.stack ++ shown (wanted l.search (chars l.pattern) l.k l.elements) ≡ l.initial.store.stack ++ shown (wanted l.search (chars l.pattern) l.start l.elements);
    }
