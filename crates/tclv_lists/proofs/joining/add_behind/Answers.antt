use Rattle.std.proofs.lemmas.Bool.{cond-false}
use Rattle.tclv_lists.proofs.JoinLemmas.{appends_on}
use Rattle.tclv_lists.proofs.joining.add_behind.Goals as goal

pub returns : goal.returns
returns c = appends_on c.add_element-2.result c.args.out.now.items c.extend_from_slice.new.self.items c.add_element-2.new.out.items c.args.separator.now _ _ c.requires.separator c.in_ok-extend_from_slice.ensures.items (cond-false _ _ _ c.if-first.false) c.add_element-2.ensures
