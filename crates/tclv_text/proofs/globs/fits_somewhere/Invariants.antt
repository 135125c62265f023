use Rattle.std.proofs.Common.{◌≡◌, ◌+◌, length}
use Rattle.tclv_text.specs.Texts.{IsText}
use Rattle.tclv_text.specs.Globs.{fits, somewhere}
use Rattle.tclv_text.specs.GlobSearch.{points}
use Rattle.tclv_text.proofs.globs.fits_somewhere.Given as goal

abbrev pub invariant-loop-behind : goal.invariant-loop-behind
invariant-loop-behind l = record {
  pattern_text : IsText l.pattern_left;
  text_text : IsText l.text_left;
  same : somewhere (fits (points l.nocase l.pattern_left)) (points l.nocase l.text_left) ≡ somewhere (fits (points l.nocase l.pattern)) (points l.nocase l.text);
}

abbrev pub decreases-loop-behind : goal.decreases-loop-behind
decreases-loop-behind l = length l.pattern_left + length l.text_left
