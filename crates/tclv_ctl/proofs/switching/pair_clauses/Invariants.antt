use Rattle.std.proofs.Common.{◌≡◌, ◌-◌, ◌*◌, ◌<◌, [], length, drop, map, reverse, get_or}
use Rattle.std.specs.List.{All}
use Rattle.tclv_value.specs.Changes.{KeepsTexts}
use Rattle.tclv_ctl.specs.Switching.{clause_in, next_body, pairs, IsInside}
use Rattle.tclv_ctl.proofs.switching.pair_clauses.Given as goal

abbrev pub invariant-loop-count : goal.invariant-loop-count
invariant-loop-count l =
    let s = l.initial.store.stack in
    let base = length s - 2 * l.count in
    record {
      kept : KeepsTexts l.initial.store l.store;
      within : l.body < length s;
      body : 0 < l.count → get_or s l.body [] ≡ next_body (drop base s);
      inside : All (IsInside s) (reverse l.found.items);
      are : pairs (drop base s) ≡ map (clause_in s) (reverse l.found.items);
    }
