use Rattle.std.proofs.Common.{◌≡◌, ◌≤◌, ◌||◌, length}
use Rattle.std.specs.List.{take_while}
use Rattle.tclv_text.specs.Texts.{IsText}
use Rattle.tclv_text.specs.Globs.{is_member, is_open}
use Rattle.tclv_text.specs.GlobSearch.{points, behind_set}
use Rattle.tclv_text.proofs.globs.behind_member.Given as goal

abbrev pub invariant-loop-fits : goal.invariant-loop-fits
invariant-loop-fits l = record {
  text : IsText l.rest;
  within : length l.rest ≤ length l.set;
  has : (l.has || is_member l.c (take_while is_open (points l.nocase l.rest))) ≡ is_member l.c (take_while is_open (points l.nocase l.set));
  behind : behind_set (points l.nocase l.rest) ≡ behind_set (points l.nocase l.set);
}

abbrev pub decreases-loop-fits : goal.decreases-loop-fits
decreases-loop-fits l = length l.rest
