use Rattle.std.proofs.Common.{◌∙◌, sym, ap}
use Rattle.std.specs.Option.{option_map, option_copied}
use Rattle.std.specs.Str.{chars}
use Rattle.tclv_strings.specs.Trimming.{is_trimmed, trimmed_left}
use Rattle.tclv_strings.proofs.TrimLemmas.{left_goes, left_stays}
use Rattle.tclv_strings.proofs.trimming.trimmed_left.Goals as goal

pub loop-c-preserved : goal.loop-c-preserved
loop-c-preserved c =
    let cs = option_map chars (option_copied c.args.set) in
    record {
      text = c.in-Some.ensures.rest;
      same = sym (ap (trimmed_left cs) c.in-Some.ensures.first ∙ left_goes (is_trimmed cs) c.in-Some.c (chars c.in-Some.behind.now) (sym c.if-not-is_trimmed.ensures)) ∙ c.loop-c.invariant.same;
    }

pub returns-then-not-is_trimmed-clause-text : goal.returns-then-not-is_trimmed-clause-text
returns-then-not-is_trimmed-clause-text c =
    let cs = option_map chars (option_copied c.args.set) in
    let first = c.in-Some.ensures.first in
    first ∙ sym (ap (trimmed_left cs) first ∙ left_stays (is_trimmed cs) c.in-Some.c (chars c.in-Some.behind.now) (sym c.if-not-is_trimmed.ensures)) ∙ c.loop-c.invariant.same

pub returns-clause-text : goal.returns-clause-text
returns-clause-text c =
    let cs = option_map chars (option_copied c.args.set) in
    let none = c.in_default.ensures.first in
    none ∙ sym (ap (trimmed_left cs) none) ∙ c.loop-c.invariant.same
