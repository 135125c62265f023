use Rattle.std.proofs.Common.{◌∙◌}
use Rattle.tclv_ctl.proofs.TextLemmas.{is_default_word}
use Rattle.tclv_ctl.proofs.choosing.is_default.Goals as goal

pub returns : goal.returns
returns c = c.is_word.ensures ∙ is_default_word c.args.text.now c.requires
