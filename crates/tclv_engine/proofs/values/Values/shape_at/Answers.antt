use Rattle.std.proofs.Common.{◌∙◌, ap}
use Rattle.tclv_reply.specs.Names.{shape_of}
use Rattle.tclv_engine.proofs.NameLemmas.{bytes-are}
use Rattle.tclv_engine.proofs.values.Values.shape_at.Goals as goal

pub returns : goal.returns
returns c = c.of.ensures ∙ ap shape_of (bytes-are _ _ c.lend.ensures.utf8 c.lend.ensures.text)
