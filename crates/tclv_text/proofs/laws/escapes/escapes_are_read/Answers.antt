use Rattle.tclv_text.proofs.EscapeLemmas.{unescape_begins, unescape_other}
use Rattle.tclv_text.proofs.laws.escapes.escapes_are_read.Goals as goal

pub returns : goal.returns
returns c = record { escape = unescape_begins; other = unescape_other }
