use Rattle.std.proofs.Common.{◌≡◌, length}
use Rattle.std.specs.Option.{option_map, option_copied}
use Rattle.std.specs.Str.{chars}
use Rattle.tclv_text.specs.Texts.{IsText}
use Rattle.tclv_strings.specs.Trimming.{trimmed_left}
use Rattle.tclv_strings.proofs.trimming.trimmed_left.Given as goal

abbrev pub invariant-loop-c : goal.invariant-loop-c
invariant-loop-c l =
    let cs = option_map chars (option_copied l.set) in
    record { text : IsText l.rest; same : trimmed_left cs (chars l.rest) ≡ trimmed_left cs (chars l.text) }

abbrev pub decreases-loop-c : goal.decreases-loop-c
decreases-loop-c l = length l.rest
