use Rattle.std.proofs.Common.{ap, ◌∙◌}
use Rattle.std.specs.Str.{chars}
use Rattle.std.proofs.lemmas.Str.{chars-nil}
use Rattle.tclv_parse.proofs.literals.empty.Goals as goal

pub returns : goal.returns
returns c = c.new-2.ensures ∙ ap chars c.new.ensures.items ∙ chars-nil
