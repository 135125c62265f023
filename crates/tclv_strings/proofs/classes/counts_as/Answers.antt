use Rattle.std.proofs.Common.{◌∙◌, sym}
use Rattle.std.specs.Str.{chars}
use Rattle.tclv_strings.proofs.ClassLemmas.{strict_as, empty_counts, others_count, held_as}
use Rattle.tclv_strings.proofs.classes.counts_as.Goals as goal

pub returns-then-strict : goal.returns-then-strict
returns-then-strict c =
    let t = chars c.args.text.now in
    held_as c.is_of.result _ _ (strict_as c.args.strict c.args.class t c.if-strict.true) c.is_of.ensures

pub returns-then-has_none : goal.returns-then-has_none
returns-then-has_none c = empty_counts c.args.strict c.args.class (chars c.args.text.now) c.if-strict.false (sym c.has_none.ensures ∙ c.if-has_none.true)

pub returns : goal.returns
returns c =
    let t = chars c.args.text.now in
    held_as c.is_of-2.result _ _ (others_count c.args.strict c.args.class t (sym c.has_none.ensures ∙ c.if-has_none.false)) c.is_of-2.ensures
