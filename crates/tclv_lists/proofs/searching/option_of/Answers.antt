use Rattle.std.proofs.Common.{◌∙◌}
use Rattle.tclv_lists.proofs.OptionLemmas.{search_option_same}
use Rattle.tclv_lists.proofs.searching.option_of.Goals as goal

pub returns : goal.returns
returns c = c.search_option.ensures ∙ search_option_same c.args.word.now c.requires
