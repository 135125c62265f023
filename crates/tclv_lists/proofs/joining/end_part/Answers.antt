use Rattle.std.proofs.Common.{ap, ◌∙◌}
use Rattle.std.specs.Str.{chars}
use Rattle.std.proofs.lemmas.Str.{chars-nil}
use Rattle.tclv_lists.proofs.joining.end_part.Goals as goal

pub returns-clause-empty : goal.returns-clause-empty
returns-clause-empty c = c.new-2.ensures ∙ ap chars c.new.ensures.items ∙ chars-nil
