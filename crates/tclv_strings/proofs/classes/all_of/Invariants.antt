use Rattle.std.proofs.Common.{◌≡◌, length}
use Rattle.std.specs.List.{list_all}
use Rattle.std.specs.Str.{chars}
use Rattle.tclv_text.specs.Texts.{IsText}
use Rattle.tclv_strings.specs.Classes.{has_class}
use Rattle.tclv_strings.proofs.classes.all_of.Given as goal

abbrev pub invariant-loop-c : goal.invariant-loop-c
invariant-loop-c l = record { text : IsText l.rest; same : list_all (has_class l.class) (chars l.rest) ≡ list_all (has_class l.class) (chars l.text) }

abbrev pub decreases-loop-c : goal.decreases-loop-c
decreases-loop-c l = length l.rest
