use Rattle.std.proofs.Common.{length, ap, ◌∙◌, sym}
use Rattle.std.proofs.lemmas.Str.{encodes-chars}
use Rattle.tclv_text.specs.Cursors.{size}
use Rattle.tclv_text.proofs.cursors.Cursor.left.Goals as goal

pub returns : goal.returns
unfolding size
returns c = ap length (sym (encodes-chars c.self.inside.rest.now c.self.invariant.utf8)) ∙ ap size c.self.view_is
