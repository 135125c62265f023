use Rattle.std.proofs.Common.{ap, sym, ◌∙◌}
use Rattle.std.specs.Str.{chars}
use Rattle.tclv_text.proofs.TextLemmas.{same_bytes}
use Rattle.std.specs.Cmp.Lexicographic.{bytes_decides}
use Rattle.tclv_text.proofs.texts.Text.is_same.Goals as goal

pub returns : goal.returns
returns c =
    let d = bytes_decides c.self.inside.bytes.items c.other.inside.bytes.items in (
      λ t. sym c.self.view_is ∙ ap chars (d.0 (sym c.eq.ensures ∙ t)) ∙ c.other.view_is,
      λ e. c.eq.ensures ∙ d.1 (same_bytes c.self.invariant c.other.invariant (c.self.view_is ∙ e ∙ sym c.other.view_is)),
    )
