use Rattle.std.proofs.Common.{◌∙◌, sym}
use Rattle.std.proofs.lemmas.Str.{encodes-chars}
use Rattle.tclv_shell.proofs.file_ends.copied.Goals as goal

pub returns : goal.returns
returns c = c.in_ok-from_slice.ensures.items ∙ sym (encodes-chars c.args.text.now c.requires.utf8)
