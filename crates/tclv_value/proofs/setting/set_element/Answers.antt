use Rattle.std.proofs.Common.{◌∙◌}
use Rattle.tclv_value.proofs.SetLemmas.{can_empty, above_none, can_then, above_then, set_done}
use Rattle.tclv_value.proofs.setting.set_element.Goals as goal

pub swap_list-old-requires-clause-can : goal.swap_list-old-requires-clause-can
swap_list-old-requires-clause-can c = can_empty c.args.heap.now.graph c.args.id c.args.value _ c.requires.can c.new.ensures

pub swap_list-old-requires-clause-depth : goal.swap_list-old-requires-clause-depth
swap_list-old-requires-clause-depth c = above_none c.args.heap.now.graph _ c.new.ensures

pub with_value-list-requires-clause-within : goal.with_value-list-requires-clause-within
with_value-list-requires-clause-within c = c.requires.within _ c.swap_list-old.ensures.swapped.was

pub with_value-list-requires-clause-room : goal.with_value-list-requires-clause-room
with_value-list-requires-clause-room c = c.requires.room _ c.swap_list-old.ensures.was

pub swap_list-requires-clause-can : goal.swap_list-requires-clause-can
swap_list-requires-clause-can c = can_then c.args.heap.now.graph c.swap_list-old.new.heap.graph c.args.id c.args.place c.args.value c.requires.can _ c.new.ensures c.swap_list-old.result c.swap_list-old.ensures.swapped c.with_value-list.result.0 c.with_value-list.ensures.list

pub swap_list-requires-clause-depth : goal.swap_list-requires-clause-depth
swap_list-requires-clause-depth c =
    rw c.depth_with-depth.ensures (above_then c.args.heap.now.graph c.swap_list-old.new.heap.graph c.args.id c.args.place c.args.value c.requires.can _ c.new.ensures c.swap_list-old.result c.swap_list-old.ensures.swapped c.with_value-list.result.0 c.with_value-list.ensures.list c.swap_list-old.ensures.was)

pub returns-clause-set : goal.returns-clause-set
returns-clause-set c =
    rw c.with_value-list.ensures.gone (set_done c.args.heap.now.graph c.swap_list-old.new.heap.graph c.args.id c.args.place c.args.value c.requires.can _ c.new.ensures c.swap_list-old.result c.swap_list-old.ensures.swapped c.with_value-list.result.0 c.with_value-list.ensures.list c.swap_list.new.heap.graph c.depth_with-depth.result _ c.swap_list.ensures.swapped)

pub returns-clause-depth : goal.returns-clause-depth
returns-clause-depth c = c.swap_list.ensures.swapped.deep ∙ c.depth_with-depth.ensures
