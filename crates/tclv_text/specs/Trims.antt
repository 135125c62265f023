-- Texts without the white space at their ends. `trim` itself stands beside the numbers.
use Rattle.std.specs.Prelude.{ℕ, ◌+◌, ◌-◌, Bool, ◌==◌, if◌then◌else◌, List, length, take, drop, slice_index}
use Rattle.std.specs.List.{prefix_len, suffix_len}
use Rattle.tclv_text.specs.Characters.{is_space}

-- a backslash comes last
abbrev pub ends_in_backslash : List ℕ → Bool
ends_in_backslash t = slice_index t (length t - 1) == 92

-- the text without the white space at its ends, but with one that stands behind a backslash
unfoldable pub trim_unescaped : List ℕ → List ℕ
trim_unescaped t =
    let u = drop (prefix_len is_space t) t in
    let n = length u - suffix_len is_space u in
    take (if ends_in_backslash (take n u) then n + 1 else n) u
