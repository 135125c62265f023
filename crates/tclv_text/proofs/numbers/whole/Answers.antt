use Rattle.std.proofs.Common.{◌∙◌}
use Rattle.tclv_text.proofs.NumbersLifted.{whole_lifted}
use Rattle.tclv_text.proofs.numbers.whole.Goals as goal

pub returns : goal.returns
returns c = c.whole_of.ensures ∙ whole_lifted c.args.text.now c.requires
