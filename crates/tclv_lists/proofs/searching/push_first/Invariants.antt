use Rattle.std.proofs.Common.{◌≡◌}
use Rattle.std.specs.Str.{chars}
use Rattle.tclv_lists.specs.Searching.{wanted}
use Rattle.tclv_lists.proofs.searching.push_first.Given as goal

-- None was found.
abbrev pub invariant-loop-k : goal.invariant-loop-k
invariant-loop-k l = record {
  kept : l.store ≡ l.initial.store;
  rest : wanted l.search (chars l.pattern) l.k l.elements ≡ wanted l.search (chars l.pattern) l.start l.elements;
}
