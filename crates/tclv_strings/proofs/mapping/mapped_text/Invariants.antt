use Rattle.std.proofs.Common.{◌≡◌, ◌++◌, length}
use Rattle.std.specs.Str.{chars}
use Rattle.tclv_text.specs.Texts.{IsText}
use Rattle.tclv_strings.specs.Mapping.{mapped_text}
use Rattle.tclv_strings.proofs.mapping.mapped_text.Given as goal

-- What is written, before what the rest is mapped to.
abbrev pub invariant-loop-c : goal.invariant-loop-c
invariant-loop-c l = record { text : IsText l.rest; same : l.out ++ mapped_text l.nocase l.mapping (chars l.rest) ≡ mapped_text l.nocase l.mapping (chars l.text) }

abbrev pub decreases-loop-c : goal.decreases-loop-c
decreases-loop-c l = length (chars l.rest)
