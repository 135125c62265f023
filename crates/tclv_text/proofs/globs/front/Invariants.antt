use Rattle.std.proofs.Common.{◌+◌, ◌≤◌, length}
use Rattle.tclv_text.specs.Texts.{IsText}
use Rattle.tclv_text.specs.GlobSearch.{points, Passes}
use Rattle.tclv_text.proofs.globs.front.Given as goal

abbrev pub invariant-loop-mark : goal.invariant-loop-mark
invariant-loop-mark l = record {
  pattern_text : IsText l.pattern_left;
  text_text : IsText l.text_left;
  within : length l.pattern_left + length l.text_left ≤ length l.pattern + length l.text;
  passes : Passes (points l.nocase l.pattern) (points l.nocase l.text) (points l.nocase l.pattern_left) (points l.nocase l.text_left);
}

abbrev pub decreases-loop-mark : goal.decreases-loop-mark
decreases-loop-mark l = length l.pattern_left
