use Rattle.tclv_value.proofs.KeptLemmas.{listed_there}
use Rattle.tclv_value.proofs.kept_lists.element_of.Goals as goal

pub kept_list-requires : goal.kept_list-requires
kept_list-requires c = listed_there c.args.heap.now.graph c.args.id c.requires
