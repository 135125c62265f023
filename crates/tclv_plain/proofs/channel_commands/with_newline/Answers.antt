use Rattle.std.proofs.Common.{rules, ◌∙◌}
use Rattle.tclv_plain.proofs.ChannelLemmas.{line_bytes}
use Rattle.tclv_plain.proofs.channel_commands.with_newline.Goals as goal

pub returns : goal.returns
returns c = (search rules) ∙ line_bytes c.args.text.now c.requires
