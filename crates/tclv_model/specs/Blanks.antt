-- Templates: texts with blanks, which parts fill.
use Rattle.std.specs.Prelude.{ℕ, Bool, ◌==◌, nat_lt, if◌then◌else◌, List, [], ◌++◌, length}
use Rattle.std.specs.List.{position_or_len, before_first, after_first}

-- the character `_`
abbrev pub is_blank : ℕ → Bool
is_blank c = c == 95

abbrev pub has_blank : List ℕ → Bool
has_blank template = nat_lt (position_or_len is_blank template) (length template)

-- a template up to its first blank, and the part in the place of that blank; nothing where there is none
abbrev pub up_to_blank : List ℕ → List ℕ → List ℕ
up_to_blank template part = if has_blank template then before_first is_blank template ++ part else []

-- what is behind the first blank, or all of a template without one
abbrev pub behind_blank : List ℕ → List ℕ
behind_blank template = if has_blank template then after_first is_blank template else template

-- a template whose first two blanks, as far as it has them, are filled
abbrev pub filled : List ℕ → List ℕ → List ℕ → List ℕ
filled template first second =
    up_to_blank template first ++ (up_to_blank (behind_blank template) second ++ behind_blank (behind_blank template))
