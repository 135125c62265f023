use Rattle.std.proofs.Common.{◌-◌, ◌<◌, ◌++◌, [], map, take, drop, length, get_or, List, ℕ}
use Rattle.std.specs.List.{All}
use Rattle.std.specs.Option.{option_map}
use Rattle.tclv_model.specs.Rows.{Gives, and_then}
use Rattle.tclv_lists.specs.declared.sorting.Key.{Key}
use Rattle.tclv_lists.specs.Sorting.{keyed, pair_of}
use Rattle.tclv_reply.proofs.Laws.{Went}
use Rattle.tclv_lists.proofs.sorting.read_entries.Given as goal

-- So many keys are read, and the elements behind are still to be read.
abbrev pub invariant-loop-at : goal.invariant-loop-at
invariant-loop-at l =
    let s = l.initial.store.stack in
    let index = option_map (λ k. get_or s k []) l.index in
    record {
      came : Went {A = List (Key × List ℕ)} (keyed l.order index (take (l.to - l.from) (drop l.from s))) (and_then (keyed l.order index (take (l.to - l.at) (drop l.at s))) (λ es. Gives (map (pair_of s) l.entries.items ++ es))) l.initial.store l.store;
      within : All (λ e. e.at < length s) l.entries.items;
    }
