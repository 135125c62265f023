use Rattle.tclv_reply.proofs.TextLemmas.{points_are}
use Rattle.tclv_reply.proofs.values.know_text.Goals as goal

pub returns : goal.returns
returns c = points_are c.in-Some._text.now _ c.in-Some.ensures.text
