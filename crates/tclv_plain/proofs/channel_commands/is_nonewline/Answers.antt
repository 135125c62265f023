use Rattle.std.proofs.Common.{◌∙◌}
use Rattle.tclv_plain.proofs.ChannelLemmas.{is_option}
use Rattle.tclv_plain.proofs.channel_commands.is_nonewline.Goals as goal

pub returns : goal.returns
returns c = c.is_word.ensures ∙ is_option c.args.word.now c.requires
