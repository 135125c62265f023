use Rattle.std.proofs.Common.{◌∙◌}
use Rattle.tclv_lists.proofs.OptionLemmas.{order_option_same}
use Rattle.tclv_lists.proofs.sorting.option_of.Goals as goal

pub returns : goal.returns
returns c = c.order_option.ensures ∙ order_option_same c.args.word.now c.requires
