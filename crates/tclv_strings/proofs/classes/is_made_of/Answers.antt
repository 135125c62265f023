use Rattle.std.proofs.Common.{◌∙◌, sym}
use Rattle.std.specs.Str.{chars}
use Rattle.tclv_strings.proofs.ClassLemmas.{none_there, some_there}
use Rattle.tclv_strings.proofs.classes.is_made_of.Goals as goal

pub returns-then-has_none : goal.returns-then-has_none
returns-then-has_none c = none_there c.args.class (chars c.args.text.now) (sym c.has_none.ensures ∙ c.if-has_none.true)

pub returns : goal.returns
returns c = c.all_of.ensures ∙ some_there c.args.class (chars c.args.text.now) (sym c.has_none.ensures ∙ c.if-has_none.false)
