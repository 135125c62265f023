use Rattle.std.proofs.Common.{◌∙◌, length, sym, ap₂}
use Rattle.std.specs.Ordering.{nat_cmp}
use Rattle.std.specs.declared.cmp.Ordering.TheVariants.{Equal}
use Rattle.std.specs.Str.{chars}
use Rattle.std.proofs.lemmas.Bool.{eqb-true, eqb-false}
use Rattle.tclv_strings.proofs.ComparingLemmas.{order_step, order_same, order_shorter}
use Rattle.tclv_strings.proofs.CharacterLemmas.{empty_points, some_left}
use Rattle.tclv_strings.proofs.comparing.order_of.Goals as goal

pub loop-c-preserved : goal.loop-c-preserved
loop-c-preserved c =
    let one = chars c.loop-c.one_left.now in
    let other = chars c.loop-c.other_left.now in
    let said = ap₂ nat_cmp (sym c.fold_char.ensures) (sym c.fold_char-in-Some.ensures) ∙ sym c.cmp.ensures ∙ c.in-Equal.is in
    record {
      one_text = c.in-Some.ensures.rest;
      other_text = c.in-Some-split_first.ensures.rest;
      same = sym (order_step c.args.nocase one other Equal c.in-Some.c c.in-Some-split_first.d (chars c.in-Some.behind.now) (chars c.in-Some-split_first.rest.now) c.in-Some.ensures.first c.in-Some-split_first.ensures.first said) ∙ c.loop-c.invariant.same;
    }

pub returns-then-is_empty : goal.returns-then-is_empty
returns-then-is_empty c =
    let one = chars c.loop-c.one_left.now in
    let bytes = c.loop-c.other_left.now in
    sym (order_same c.args.nocase one (chars bytes) c.in_default.ensures.first (empty_points bytes (eqb-true (length bytes) 0 (sym c.if-is_empty.ensures)))) ∙ c.loop-c.invariant.same

pub returns-else-is_empty : goal.returns-else-is_empty
returns-else-is_empty c =
    let one = chars c.loop-c.one_left.now in
    let bytes = c.loop-c.other_left.now in
    sym (order_shorter c.args.nocase one (chars bytes) c.in_default.ensures.first (some_left bytes c.loop-c.invariant.other_text (eqb-false (length bytes) 0 (sym c.if-is_empty.ensures)))) ∙ c.loop-c.invariant.same
