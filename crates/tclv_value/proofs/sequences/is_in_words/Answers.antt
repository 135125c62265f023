use Rattle.std.proofs.Common.{◌-◌, refl, ◌∙◌, arith}
use Rattle.std.specs.Int.{w64, w128}
use Rattle.std.proofs.lemmas.Int.{ints, to_z-of_z}
use mir.Val.{to_z, of_z}
use Rattle.tclv_value.proofs.SequenceLemmas.{by_last, same_number}
use Rattle.tclv_value.proofs.sequences.is_in_words.Goals as goal

pub returns-then-last : goal.returns-then-last
returns-then-last c =
    let r = c.number_at-last.result in
    let a = to_z-of_z w64 c.args.start c.ranges.start in
    let b = to_z-of_z w64 c.args.step c.ranges.step in
    by_last c.args.start c.args.step c.args.count (to_z w128 (of_z w128 r)) _ c.ranges.start (omega arith)
    (to_z-of_z w128 r (record { sfits = c.number_at-last.type_inv }) ∙ c.number_at-last.ensures ∙ same_number c.args.start c.args.step _ _ (c.args.count - 1) a b)
    (omega (arith, ints, c.if-last.true))
    refl
