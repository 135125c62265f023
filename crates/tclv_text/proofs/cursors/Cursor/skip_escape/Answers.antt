use Rattle.std.proofs.Common.{ap, ◌∙◌}
use Rattle.tclv_text.specs.Cursors.{sign, begins_escape}
use Rattle.tclv_text.proofs.CursorLemmas.{escape-bytes}
use Rattle.tclv_text.proofs.cursors.Cursor.skip_escape.Goals as goal

pub backslash-c-requires-clause-some : goal.backslash-c-requires-clause-some
backslash-c-requires-clause-some c = (escape-bytes c.self.inside.rest.now c.self.invariant (ap (λ t. begins_escape (sign t)) c.self.view_is ∙ c.requires)).some

pub backslash-c-requires-clause-begins : goal.backslash-c-requires-clause-begins
backslash-c-requires-clause-begins c = (escape-bytes c.self.inside.rest.now c.self.invariant (ap (λ t. begins_escape (sign t)) c.self.view_is ∙ c.requires)).begins
