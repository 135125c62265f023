-- What a text is as a place in a list or a text of a given length.
use Rattle.std.specs.Prelude.{◌≡◌, ◌⊎◌, ℕ, ◌+◌, Bool, not, ◌||◌, ◌==◌, if◌then◌else◌, List, [], ◌∷◌, ◌++◌, drop, Option, Some, None, Result, ℤ, pos, ◌+ℤ◌, ◌-ℤ◌, codes}
use Rattle.std.specs.Option.{option_or, ok_or}
use Rattle.std.specs.Result.{result_ok}
use Rattle.std.specs.List.{prefix_len, suffix_len}
use Rattle.std.specs.Str.{bytes_eq}
use Rattle.tclv_text.specs.declared.indices.IndexFault.{IndexFault}
use Rattle.tclv_text.specs.declared.indices.IndexFault.TheVariants.{BadIndex}
use Rattle.tclv_text.specs.Characters.{is_space}
use Rattle.tclv_text.specs.Numbers.{trim_end, whole}

-- a whole number, or `end` with white space behind it or none, which is the last place: one below the length
abbrev pub base : ℕ → List ℕ → Option ℤ
base len t = if bytes_eq (trim_end t) (codes "end") then Some (pos len -ℤ pos 1) else result_ok (whole t)

-- such a place without white space at its end, as it stands before a sign
abbrev pub before : ℕ → List ℕ → Option ℤ
before len u = if suffix_len is_space u == 0 then base len u else None

-- a whole number without white space in front, as it stands behind a sign
abbrev pub behind : List ℕ → Option ℤ
behind v = if prefix_len is_space v == 0 then result_ok (whole v) else None

-- a place and a number with a sign between them, which adds the number or takes it away
abbrev pub moved : Option ℤ → ℕ → Option ℤ → Option ℤ
moved None sign by = None
moved (Some a) sign None = None
moved (Some a) sign (Some b) = if sign == 43 then Some (a +ℤ b) else (if sign == 45 then Some (a -ℤ b) else None)

-- A text of which the front was passed, cut at one sign, with a place before the sign and a whole number behind it.
abbrev pub cut : ℕ → List ℕ → List ℕ → Option ℤ
cut len front [] = None
cut len front (c ∷ rest) = option_or (moved (before len front) c (behind rest)) (cut len (front ++ c ∷ []) rest)

-- The place that the text is, where the length is len: `N`, `end`, `N+M`, `N-M`, `end+M` or `end-M`, with whole numbers N and M. White space
-- may stand before a number that comes first, and at the end; none stands beside the sign.
unfoldable pub place : List ℕ → ℕ → Option ℤ
place t len = option_or (base len t) (cut len [] t)

-- The same by cases on the whole text: it is a place, or a place, a sign and a whole number, with no white space beside the sign.
abbrev pub IsPlace : List ℕ → ℕ → ℤ → Type 0
IsPlace t len z = (base len t ≡ Some z) ⊎ ((u : List ℕ) × (sign : ℕ) × (v : List ℕ) × (t ≡ u ++ sign ∷ v) × (moved (before len u) sign (behind v) ≡ Some z))

abbrev pub index : List ℕ → ℕ → Result ℤ IndexFault
index t len = ok_or (place t len) BadIndex

-- Where the code cuts: at the first sign behind the white space and signs that the text begins with.
abbrev pub is_sign : ℕ → Bool
is_sign c = (c == 43) || (c == 45)

abbrev pub is_lead : ℕ → Bool
is_lead c = is_space c || is_sign c

unfoldable pub sign_place : List ℕ → ℕ
sign_place t = let n = prefix_len is_lead t in n + prefix_len (λ c. not (is_sign c)) (drop n t)
