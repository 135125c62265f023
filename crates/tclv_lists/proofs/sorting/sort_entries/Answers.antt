use Rattle.std.proofs.Common.{rules}
use Rattle.std.proofs.lemmas.Fn.{always_returns_same}
use Rattle.tclv_lists.specs.Sorting.{entry_before}
use Rattle.tclv_lists.proofs.SortLemmas.{sorted_is}
use Rattle.tclv_lists.proofs.KeyLemmas.{entry_order}
use Rattle.tclv_lists.proofs.sorting.sort_entries.Goals as goal

pub returns-clause-sorted : goal.returns-clause-sorted
returns-clause-sorted c =
    let before = entry_before c.args.direction in
    let o = entry_order c.args.direction in
    let answers = always_returns_same _ _ _ (λ a r f k. search rules) in
    sorted_is before o c.args.entries.now.items c.sort_by.new.self.items (c.in_ok-sort_by.ensures.sorted before o answers) (c.in_ok-sort_by.ensures.stable before o answers)
