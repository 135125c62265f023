use Rattle.std.proofs.Common.{sym, ◌∙◌}
use Rattle.std.specs.Str.{chars}
use Rattle.tclv_text.specs.Elements.{elements}
use Rattle.tclv_strings.proofs.ClassLemmas.{even_dict}
use Rattle.tclv_strings.proofs.classes.is_dict.Goals as goal

pub returns-in-Some : goal.returns-in-Some
returns-in-Some c = even_dict (elements (chars c.args.text.now)) c.in-Some.count (sym c.in-Some.is ∙ c.in_ok-found.ensures)
