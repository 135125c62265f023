use Rattle.std.proofs.Common.{◌≤◌, ◌^◌, ℕ, ℤ, List, subst, arith}
use Rattle.tclv_text.specs.Quotes.{list_text}
use Rattle.tclv_model.specs.Values.{too_large}
use Rattle.tclv_value.specs.Changes.{Pushes}
use Rattle.tclv_value.specs.declared.faults.ValueFault.{ValueFault}
use Rattle.tclv_value.specs.declared.faults.ValueFault.TheVariants as value
use Rattle.tclv_value.specs.Sequences.{sequence, IsInWords, RefusesSequence}
use Rattle.tclv_lists.specs.Sequences.{sequence_of}
use Rattle.tclv_reply.proofs.Laws.{grows_kept, grows_trans, refused_after, begun, leaves_text}
use Rattle.tclv_lists.proofs.SequenceLemmas.{in_words, out_of_words, read_back}
use Rattle.tclv_lists.proofs.sequences.push_sequence.Goals as goal

pub returns-in-Ok : goal.returns-in-Ok
returns-in-Ok c =
    let old = c.args.store.now in
    let start = c.args.start in
    let step = c.args.step in
    let count = c.args.count in
    let few : count ≤ 2 ^ 62 = omega (arith, c.if-count.false) in
    let words = read_back (λ (x y : ℤ). IsInWords x y count) start step c.ranges.start c.ranges.step c.in-Ok.ensures.words in
    let pushed = read_back (λ (x y : ℤ). Pushes old (list_text (sequence x y count)) c.push_seq.new.self) start step c.ranges.start c.ranges.step c.in-Ok.ensures.pushed in
    leaves_text (list_text (sequence start step count)) (begun (sequence_of start step count) old) (in_words start step count few words) pushed

pub returns-in-Err-TooLarge : goal.returns-in-Err-TooLarge
returns-in-Err-TooLarge c =
    let old = c.args.store.now in
    let mid = c.push_seq.new.self in
    let last = c.refuse_large.new.store in
    let start = c.args.start in
    let step = c.args.step in
    let count = c.args.count in
    let few : count ≤ 2 ^ 62 = omega (arith, c.if-count.false) in
    let g = grows_kept old mid c.in-Err-TooLarge.ensures.kept in
    let r = c.refuse_large.ensures in
    let refused = read_back (λ (x y : ℤ). RefusesSequence c.in-Err-TooLarge.field-0 x y count) start step c.ranges.start c.ranges.step c.in-Err-TooLarge.ensures.refused in
    let out = subst (λ (f : ValueFault). RefusesSequence f start step count) {y = value.TooLarge} c.in-Err-TooLarge.field-0-is refused in
    record {
      grows = grows_trans old mid last g r.grows;
      gives = tt;
      refuses = refused_after _ (too_large {A = List ℕ}) c.refuse_large.result old mid last g (out_of_words start step count few out) r.refused;
    }
