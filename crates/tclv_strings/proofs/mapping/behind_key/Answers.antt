use Rattle.std.proofs.Common.{◌≡◌, ◌∙◌, ◌<◌, length, drop, sym, ap, ap₂, arith}
use Rattle.std.specs.Str.{chars}
use Rattle.std.proofs.lemmas.Bool.{eqb-true, eqb-false}
use Rattle.tclv_text.specs.Globs.{folded_char}
use Rattle.tclv_strings.proofs.CharacterLemmas.{empty_points, some_left}
use Rattle.tclv_strings.proofs.MappingLemmas.{is_front, front_on, drop_on, stands_empty, stands_some}
use Rattle.tclv_strings.proofs.mapping.behind_key.Goals as goal

pub returns-then-is_empty-clause-stands : goal.returns-then-is_empty-clause-stands
returns-then-is_empty-clause-stands c = sym (stands_empty c.args.nocase (chars c.args.key.now) (chars c.args.text.now) (empty_points c.args.key.now (eqb-true (length c.args.key.now) 0 (sym c.if-is_empty.ensures))))

pub loop-k-preserved : goal.loop-k-preserved
loop-k-preserved c =
    let nocase = c.args.nocase in
    let k = c.in-Some.k in
    let first = c.in-Some-split_first.c in
    let key = chars c.in-Some.key_behind.now in
    let text = chars c.in-Some-split_first.behind.now in
    let same : folded_char nocase first ≡ folded_char nocase k = sym c.fold_char.ensures ∙ c.if-fold_char.false ∙ c.fold_char-in-Some.ensures in
    let key_is = c.in-Some.ensures.first in
    let text_is = c.in-Some-split_first.ensures.first in
    record {
      text = c.in-Some-split_first.ensures.rest;
      key = c.in-Some.ensures.rest;
      front = sym (ap₂ (is_front nocase) key_is text_is ∙ front_on nocase k first key text same) ∙ c.loop-k.invariant.front;
      behind = sym (ap₂ (λ x y. drop (length x) y) key_is text_is ∙ drop_on k first key text) ∙ c.loop-k.invariant.behind;
      count = omega (arith, c.loop-k.invariant.count, ap length key_is, ap length text_is);
    }

pub returns-clause-stands : goal.returns-clause-stands
returns-clause-stands c =
    let nocase = c.args.nocase in
    let key = chars c.args.key.now in
    let text = chars c.args.text.now in
    let some : 0 < length key = some_left c.args.key.now c.requires.key (eqb-false (length c.args.key.now) 0 (sym c.if-is_empty.ensures)) in
    sym (stands_some nocase key text some ∙ sym c.loop-k.invariant.front ∙ ap (λ x. is_front nocase x (chars c.loop-k.text_left.now)) c.in_default.ensures.first)

pub returns-clause-shorter : goal.returns-clause-shorter
returns-clause-shorter c =
    let key = chars c.args.key.now in
    let some : 0 < length key = some_left c.args.key.now c.requires.key (eqb-false (length c.args.key.now) 0 (sym c.if-is_empty.ensures)) in
    omega (arith, c.loop-k.invariant.count, ap length c.in_default.ensures.first, some)
