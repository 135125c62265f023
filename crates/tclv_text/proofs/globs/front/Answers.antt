use Rattle.std.proofs.Common.{ap, sym, ◌∙◌, arith, length}
use Rattle.std.proofs.lemmas.Bool.{eqb-true, eqb-false}
use Rattle.tclv_text.specs.Globs.{is_empty}
use Rattle.tclv_text.specs.GlobSearch.{points}
use Rattle.tclv_text.proofs.GlobLemmas.{passes_more, passes_end, no_points, some_points}
use Rattle.tclv_text.proofs.globs.front.Goals as goal

pub loop-mark-preserved : goal.loop-mark-preserved
loop-mark-preserved c =
    let see = points c.args.nocase in
    record {
      pattern_text = c.in-Some-behind_part.ensures.text;
      text_text = c.in-Some-first.ensures.rest;
      within = omega (arith, c.in-Some.ensures.shorter, c.in-Some-first.ensures.shorter, c.in-Some-behind_part.ensures.within, c.loop-mark.invariant.within);
      passes = passes_more (see c.args.pattern.now) (see c.args.text.now) (see c.loop-mark.pattern_left.now) (see c.loop-mark.text_left.now) (see c.in-Some-behind_part.next.now) (see c.in-Some.behind.now) (see c.in-Some-first.rest.now) c.in-Some.mark c.in-Some-first.c c.loop-mark.invariant.passes c.in-Some.ensures.first c.in-Some-first.ensures.first c.if-mark-eq42.false c.in-Some-behind_part.ensures.has c.in-Some-behind_part.ensures.rest;
    }

pub returns-then-is_empty-clause-says : goal.returns-then-is_empty-clause-says
returns-then-is_empty-clause-says c =
    passes_end _ _ _ _ c.loop-mark.invariant.passes c.in_default.ensures.first ∙ ap is_empty (no_points c.args.nocase c.loop-mark.text_left.now (eqb-true (length c.loop-mark.text_left.now) 0 (sym c.if-is_empty.ensures)))

pub returns-else-is_empty-clause-says : goal.returns-else-is_empty-clause-says
returns-else-is_empty-clause-says c =
    passes_end _ _ _ _ c.loop-mark.invariant.passes c.in_default.ensures.first ∙ some_points c.args.nocase c.loop-mark.text_left.now c.loop-mark.invariant.text_text (eqb-false (length c.loop-mark.text_left.now) 0 (sym c.if-is_empty.ensures))
