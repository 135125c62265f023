use Rattle.std.proofs.Common.{◌∙◌}
use Rattle.tclv_strings.proofs.NameLemmas.{string_command_same}
use Rattle.tclv_strings.proofs.subcommands.command_of.Goals as goal

pub returns : goal.returns
returns c = c.string_command.ensures ∙ string_command_same c.args.word.now c.requires
