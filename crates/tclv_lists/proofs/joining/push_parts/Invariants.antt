use Rattle.std.proofs.Common.{◌≡◌, ◌++◌, ◌∷◌, []}
use Rattle.std.specs.Str.{chars}
use Rattle.std.specs.List.{slice_split}
use Rattle.tclv_lists.specs.Joining.{is_one_of}
use Rattle.tclv_reply.specs.Replies.{Grows}
use Rattle.tclv_lists.proofs.joining.push_parts.Given as goal

abbrev pub invariant-loop-c : goal.invariant-loop-c
invariant-loop-c l = record {
  grows : Grows l.initial.store l.store;
  parts : l.initial.store.stack ++ slice_split (is_one_of (chars l.separators)) l.yielded ≡ l.store.stack ++ l.part ∷ [];
}
