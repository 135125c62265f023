use Rattle.std.proofs.Common.{◌≡◌, length}
use Rattle.std.specs.Option.{option_map, option_copied}
use Rattle.std.specs.Str.{chars}
use Rattle.tclv_text.specs.Texts.{IsText}
use Rattle.tclv_strings.specs.Trimming.{trimmed_right}
use Rattle.tclv_strings.proofs.trimming.trimmed_right.Given as goal

abbrev pub invariant-loop-before : goal.invariant-loop-before
invariant-loop-before l =
    let cs = option_map chars (option_copied l.set) in
    record { text : IsText l.rest; same : trimmed_right cs (chars l.rest) ≡ trimmed_right cs (chars l.text) }

abbrev pub decreases-loop-before : goal.decreases-loop-before
decreases-loop-before l = length l.rest
