use Rattle.std.proofs.Common.{◌∙◌}
use Rattle.std.specs.Char.{to_ascii_lowercase}
use Rattle.tclv_strings.proofs.CaseLemmas.{lower_case, text_changed}
use Rattle.tclv_strings.proofs.folding.lower.Goals as goal

pub new-requires : goal.new-requires
new-requires c = (text_changed to_ascii_lowercase lower_case c.args.text.now c.in_ok-bytes.bytes.items c.requires c.in_ok-bytes.ensures.ok).0

pub returns : goal.returns
returns c = c.new.ensures ∙ (text_changed to_ascii_lowercase lower_case c.args.text.now c.in_ok-bytes.bytes.items c.requires c.in_ok-bytes.ensures.ok).1
