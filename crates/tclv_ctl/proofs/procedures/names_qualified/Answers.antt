use Rattle.std.proofs.Common.{◌∙◌, ap, sym}
use Rattle.std.proofs.lemmas.Str.{encodes-chars}
use Rattle.tclv_reply.specs.Names.{is_qualified}
use Rattle.tclv_ctl.proofs.procedures.names_qualified.Goals as goal

pub returns : goal.returns
returns c = c.is_qualified.ensures ∙ ap is_qualified (sym (encodes-chars c.args.name.now c.requires.utf8))
