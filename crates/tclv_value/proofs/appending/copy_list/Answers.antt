use Rattle.std.proofs.Common.{IsSome, sym, subst}
use Rattle.tclv_value.specs.Appending.{CopiesList}
use Rattle.tclv_value.proofs.CopyPlaceLemmas.{copies_list}
use Rattle.tclv_value.proofs.appending.copy_list.Goals as goal
use Rattle.tclv_value.proofs.appending.copy_list.Goals.{In_ok-copy}

copies : (c : In_ok-copy) → CopiesList c.args.heap.now.graph c.args.id c.duplicate.new.self.graph c.in_ok-copy.copy
copies c =
    let d = c.in_ok-copy.ensures.duplicated in
    copies_list c.args.heap.now.graph c.duplicate.new.self.graph c.args.id c.in_ok-copy.copy d.0 c.requires.list d.1 c.in_ok-copy.ensures.holders c.in_ok-copy.ensures.keeps

pub next_list-requires : goal.next_list-requires
next_list-requires c = subst IsSome (sym (copies (goal.at.next_list-requires c).In_ok-copy).list) c.requires.list

pub returns-in-Ok-clause-copied : goal.returns-in-Ok-clause-copied
returns-in-Ok-clause-copied c = copies (goal.at.returns-in-Ok-clause-copied c).In_ok-copy
