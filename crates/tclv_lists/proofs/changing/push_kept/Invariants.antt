use Rattle.std.proofs.Common.{◌≡◌, ◌++◌, List, length, map, take}
use Rattle.std.specs.Prelude.{ℤ}
use Rattle.tclv_text.specs.Spans.{span_text}
use Rattle.tclv_lists.specs.Changing.{IsMarked, without_from}
use Rattle.tclv_reply.specs.Replies.{Grows}
use Rattle.tclv_lists.proofs.changing.push_kept.Given as goal

-- So many elements are looked at.
abbrev pub invariant-loop-i : goal.invariant-loop-i
invariant-loop-i l = record {
  grows : Grows l.initial.store l.store;
  pushed : (ks : List ℤ) → IsMarked (length l.spans) ks l.marks → l.store.stack ≡ l.initial.store.stack ++ without_from 0 ks (map (span_text l.text) (take l.i l.spans));
}
