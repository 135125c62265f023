use Rattle.std.specs.Int.{w64}
use Rattle.std.proofs.lemmas.Int.{to_z-of_z}
use Rattle.tclv_value.proofs.ElementLemmas.{nothing_written}
use Rattle.tclv_value.proofs.SequenceLemmas.{number_written, narrow_number}
use Rattle.tclv_value.proofs.sequences.sequence_bytes.Goals as goal

pub loop-k-init : goal.loop-k-init
loop-k-init c = nothing_written c.new-list.result.items c.new-list.ensures.items

pub loop-k-preserved : goal.loop-k-preserved
loop-k-preserved c =
    let a = to_z-of_z w64 c.args.start c.ranges.start in
    let b = to_z-of_z w64 c.args.step c.ranges.step in
    number_written _ _ c.loop-k.k c.loop-k.list.items c.add_number.new.list.items _
    (narrow_number c.args.start c.args.step _ _ c.loop-k.k c.number_at-number.result a b c.number_at-number.ensures (c.requires.words c.loop-k.k c.loop-k-test.true)) c.loop-k.invariant c.in_ok-add_number.ensures
