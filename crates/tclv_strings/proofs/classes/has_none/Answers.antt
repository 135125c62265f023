use Rattle.std.proofs.Common.{◌∙◌}
use Rattle.tclv_strings.proofs.CharacterLemmas.{none_as}
use Rattle.tclv_strings.proofs.classes.has_none.Goals as goal

pub returns : goal.returns
returns c = c.is_empty.ensures ∙ none_as c.args.text.now c.requires
