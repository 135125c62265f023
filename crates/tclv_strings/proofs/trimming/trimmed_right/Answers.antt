use Rattle.std.proofs.Common.{◌∙◌, sym, ap}
use Rattle.std.specs.Option.{option_map, option_copied}
use Rattle.std.specs.Str.{chars}
use Rattle.tclv_strings.specs.Trimming.{is_trimmed, trimmed_right}
use Rattle.tclv_strings.proofs.TrimLemmas.{right_goes, right_stays}
use Rattle.tclv_strings.proofs.trimming.trimmed_right.Goals as goal

pub loop-before-preserved : goal.loop-before-preserved
loop-before-preserved c =
    let cs = option_map chars (option_copied c.args.set) in
    record {
      text = c.in-Some.ensures.front;
      same = sym (ap (trimmed_right cs) c.in-Some.ensures.last ∙ right_goes (is_trimmed cs) c.in-Some.c (chars c.in-Some.before.now) (sym c.if-not-is_trimmed.ensures)) ∙ c.loop-before.invariant.same;
    }

pub returns-then-not-is_trimmed-clause-text : goal.returns-then-not-is_trimmed-clause-text
returns-then-not-is_trimmed-clause-text c =
    let cs = option_map chars (option_copied c.args.set) in
    let last = c.in-Some.ensures.last in
    last ∙ sym (ap (trimmed_right cs) last ∙ right_stays (is_trimmed cs) c.in-Some.c (chars c.in-Some.before.now) (sym c.if-not-is_trimmed.ensures)) ∙ c.loop-before.invariant.same

pub returns-clause-text : goal.returns-clause-text
returns-clause-text c =
    let cs = option_map chars (option_copied c.args.set) in
    let none = c.in_default.ensures.last in
    none ∙ sym (ap (trimmed_right cs) none) ∙ c.loop-before.invariant.same
