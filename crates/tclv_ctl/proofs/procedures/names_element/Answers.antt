use Rattle.std.proofs.Common.{◌∙◌, ap, sym}
use Rattle.std.proofs.lemmas.Str.{encodes-chars}
use Rattle.tclv_reply.specs.Names.{is_element}
use Rattle.tclv_ctl.proofs.procedures.names_element.Goals as goal

pub returns : goal.returns
returns c = c.is_element.ensures ∙ ap is_element (sym (encodes-chars c.args.name.now c.requires.utf8))
