use Rattle.std.proofs.Common.{◌≡◌, map}
use Rattle.tclv_text.specs.Globs.{folded_char}
use Rattle.tclv_lists.proofs.points.points_of.Given as goal

-- So many code points are read.
abbrev pub invariant-loop-c : goal.invariant-loop-c
invariant-loop-c l = l.items.items ≡ map (folded_char l.nocase) l.yielded
