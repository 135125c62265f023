use Rattle.std.proofs.Common.{◌≡◌, ◌≤◌, ◌-◌, length, drop}
use Rattle.std.specs.Str.{chars}
use Rattle.tclv_strings.specs.Mapping.{first_key}
use Rattle.tclv_strings.proofs.mapping.first_key.Given as goal

-- No key before the place stands in front of the text.
abbrev pub invariant-keys : goal.invariant-keys
invariant-keys l = record { found : first_key l.nocase (drop l.k l.mapping) (chars l.text) ≡ first_key l.nocase l.mapping (chars l.text); within : l.k ≤ length l.mapping }

abbrev pub decreases-keys : goal.decreases-keys
decreases-keys l = length l.mapping - l.k
