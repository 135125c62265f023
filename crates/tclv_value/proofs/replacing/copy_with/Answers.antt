use Rattle.std.proofs.Common.{IsSome, sym, subst, ◌∙◌}
use Rattle.tclv_value.specs.Appending.{CopiesList}
use Rattle.tclv_value.proofs.CopyPlaceLemmas.{copies_list}
use Rattle.tclv_value.proofs.ReplacePlaceLemmas.{within_list}
use Rattle.tclv_value.proofs.replacing.copy_with.Goals as goal
use Rattle.tclv_value.proofs.replacing.copy_with.Goals.{In_ok-copy}

copies : (c : In_ok-copy) → CopiesList c.args.heap.now.graph c.args.id c.duplicate.new.self.graph c.in_ok-copy.copy
copies c =
    let d = c.in_ok-copy.ensures.duplicated in
    copies_list c.args.heap.now.graph c.duplicate.new.self.graph c.args.id c.in_ok-copy.copy d.0 c.requires.list d.1 c.in_ok-copy.ensures.holders c.in_ok-copy.ensures.keeps

pub next_of_copy-requires-clause-list : goal.next_of_copy-requires-clause-list
next_of_copy-requires-clause-list c = subst IsSome (sym (copies (goal.at.next_of_copy-requires-clause-list c).In_ok-copy).list) c.requires.list

pub next_of_copy-requires-clause-within : goal.next_of_copy-requires-clause-within
next_of_copy-requires-clause-within c ids is =
    let was = sym (copies (goal.at.next_of_copy-requires-clause-within c).In_ok-copy).list ∙ is in
    within_list c.args.heap.now.graph c.args.id _ _ c.in-Some.ensures.some c.args.to c.requires.within ids was

pub returns-in-Ok-clause-copied : goal.returns-in-Ok-clause-copied
returns-in-Ok-clause-copied c = copies (goal.at.returns-in-Ok-clause-copied c).In_ok-copy
