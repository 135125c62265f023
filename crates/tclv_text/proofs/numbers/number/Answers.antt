use Rattle.std.proofs.Common.{◌<◌, ap, sym, ◌∙◌, arith, length}
use Rattle.std.proofs.lemmas.List.{at_drop_all}
use Rattle.tclv_text.specs.Numbers.{capped, digits_after}
use Rattle.tclv_text.proofs.CappedNumbers.{capped_some, number_nonempty, capped_digit, no_digit}
use Rattle.std.proofs.lemmas.Bool.Decides.{nat_tests}
use Rattle.tclv_text.proofs.numbers.number.Goals as goal

pub loop-b-init : goal.loop-b-init
loop-b-init c =
    let some : 0 < length c.args.ds.now = grind (arith, nat_tests) in
    (ap capped (sym (number_nonempty c.args.radix c.args.ds.now some)), omega arith)

pub loop-b-preserved : goal.loop-b-preserved
loop-b-preserved c = (
  sym (capped_digit c.args.radix c.loop-b.n c.saturating_add-n.result c.args.ds.now c.loop-b.b-index (omega arith) c.loop-b-test.true (omega arith) (omega arith)) ∙ c.loop-b.invariant.0,
  omega arith,
)

pub returns : goal.returns
returns c = sym (capped_some c.loop-b.n c.loop-b.invariant.1) ∙ sym (ap capped (at_drop_all (digits_after c.args.radix c.loop-b.n) c.args.ds.now c.loop-b.b-index (omega arith))) ∙ c.loop-b.invariant.0

pub returns-then-d-radix : goal.returns-then-d-radix
returns-then-d-radix c = sym (ap capped (no_digit c.args.radix c.loop-b.n c.args.ds.now c.loop-b.b-index c.loop-b-test.true (omega arith))) ∙ c.loop-b.invariant.0
