use Rattle.std.proofs.Common.{◌≡◌, ◌^◌, pos, true, false, subst, sym, to_z, of_z, w64}
use Rattle.std.specs.Prelude.{int_lt}
use Rattle.std.specs.Int.Signed.{shr_z}
use Rattle.std.proofs.lemmas.Int.{to_z-of_z}
use Rattle.tclv_exprp.specs.Operators.{shift_right_by}
use Rattle.tclv_exprp.proofs.ShiftLemmas.{right_real, right_far_below, right_far_above}
use Rattle.tclv_exprp.proofs.arithmetic.shift_right_by.Goals as goal

pub returns-then-a-lt0 : goal.returns-then-a-lt0
returns-then-a-lt0 c = right_far_below c.args.a c.args.n c.ranges.a c.if-n-gt63.true (subst (λ z. int_lt z (pos 0) ≡ true) (to_z-of_z w64 c.args.a c.ranges.a) c.if-a-lt0.true)

pub returns-else-a-lt0 : goal.returns-else-a-lt0
returns-else-a-lt0 c = right_far_above c.args.a c.args.n c.ranges.a c.if-n-gt63.true (subst (λ z. int_lt z (pos 0) ≡ false) (to_z-of_z w64 c.args.a c.ranges.a) c.if-a-lt0.false)

pub returns : goal.returns
returns c = subst (λ z. to_z w64 (of_z w64 (shr_z z (2 ^ c.args.n))) ≡ shift_right_by c.args.a c.args.n) (sym (to_z-of_z w64 c.args.a c.ranges.a)) (right_real c.args.a c.args.n c.ranges.a)
