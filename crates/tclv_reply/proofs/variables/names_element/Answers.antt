use Rattle.std.proofs.Common.{◌∙◌, [], get_or, ap, sym}
use Rattle.tclv_reply.specs.Names.{is_element}
use Rattle.tclv_reply.proofs.TextLemmas.{bytes_are}
use Rattle.tclv_reply.proofs.variables.names_element.Goals as goal

pub returns : goal.returns
returns c = c.is_element.ensures ∙ ap is_element (sym (bytes_are c.word_at.result.now (get_or c.args.store.now.stack c.args.name []) (c.word_at.ensures.utf8, c.word_at.ensures.text)))
