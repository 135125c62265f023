use Rattle.std.proofs.Common.{◌≡◌, length}
use Rattle.std.specs.Ordering.{nat_cmp}
use Rattle.std.specs.Cmp.Lexicographic.{slice_cmp}
use Rattle.std.specs.Str.{chars}
use Rattle.tclv_text.specs.Texts.{IsText}
use Rattle.tclv_text.specs.Globs.{folded}
use Rattle.tclv_strings.proofs.comparing.order_of.Given as goal

-- The texts are alike so far, and what is left of them decides.
abbrev pub invariant-loop-c : goal.invariant-loop-c
invariant-loop-c l = record {
  one_text : IsText l.one_left;
  other_text : IsText l.other_left;
  same : slice_cmp nat_cmp (folded l.nocase (chars l.one_left)) (folded l.nocase (chars l.other_left)) ≡ slice_cmp nat_cmp (folded l.nocase (chars l.one)) (folded l.nocase (chars l.other));
}

abbrev pub decreases-loop-c : goal.decreases-loop-c
decreases-loop-c l = length l.one_left
