use Rattle.tclv_text.proofs.TextLemmas.{text_append}
use Rattle.tclv_text.proofs.texts.Text.push.Goals as goal

pub invariant_of-self-2 : goal.invariant_of-self-2
invariant_of-self-2 c = rw c.in_ok-extend_from_slice.ensures.items (text_append c.self.invariant c.requires)
