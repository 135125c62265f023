use Rattle.std.proofs.Common.{◌≡◌, true, false, ◌∙◌, sym, ap, w64, to_z, of_z}
use Rattle.std.proofs.lemmas.Int.{to_z-of_z}
use Rattle.std.specs.Result.{result_unwrap_or}
use Rattle.std.specs.Str.{bytes_eq}
use Rattle.tclv_text.specs.Numbers.{whole}
use Rattle.tclv_shell.specs.FileEnds.{option_number}
use Rattle.tclv_shell.proofs.KeyLemmas.{same_key, number_here, number_later}
use Rattle.tclv_shell.proofs.file_ends.option_number.Goals as goal

pub returns-then-eq : goal.returns-then-eq
returns-then-eq c =
    let kept = to_z w64 (of_z w64 c.args.otherwise) in
    let same : bytes_eq c.pair-item.result.key c.args.key.now ≡ true =
    ap (λ k. bytes_eq k c.args.key.now) (sym c.bytes.ensures.text) ∙ sym (same_key c.bytes.result.now c.args.key.now c.bytes.ensures.utf8 c.requires) ∙ sym c.eq.ensures ∙ c.if-eq.true in
    to_z-of_z w64 c.unwrap_or.result (record { sfits = c.unwrap_or.type_inv })
    ∙ c.unwrap_or.ensures
    ∙ ap (λ v. result_unwrap_or v kept) (c.whole.ensures ∙ ap whole c.bytes-then-eq.ensures.text)
    ∙ sym (number_here c.args.key.now kept c.args.options.now c.loop-pair.pair-index c.pair-item.result c.loop-pair-test.true c.pair-item.is same)
    ∙ c.loop-pair.invariant
    ∙ ap (λ o. option_number c.args.key.now o c.args.options.now) (to_z-of_z w64 c.args.otherwise c.ranges.otherwise)

pub loop-pair-preserved : goal.loop-pair-preserved
loop-pair-preserved c =
    let kept = to_z w64 (of_z w64 c.args.otherwise) in
    let other : bytes_eq c.pair-item.result.key c.args.key.now ≡ false =
    ap (λ k. bytes_eq k c.args.key.now) (sym c.bytes.ensures.text) ∙ sym (same_key c.bytes.result.now c.args.key.now c.bytes.ensures.utf8 c.requires) ∙ sym c.eq.ensures ∙ c.if-eq.false in
    sym (number_later c.args.key.now kept c.args.options.now c.loop-pair.pair-index c.pair-item.result c.loop-pair-test.true c.pair-item.is other)
    ∙ c.loop-pair.invariant
