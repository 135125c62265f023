-- Which texts a glob pattern fits.
use Rattle.std.specs.Prelude.{ℕ, zero, suc, ◌+◌, Bool, true, false, not, ◌&&◌, ◌||◌, ◌==◌, nat_le, if◌then◌else◌, List, [], ◌∷◌, map}
use Rattle.std.specs.List.{prefix_len, take_while}
use Rattle.std.specs.Char.{to_ascii_lowercase}

-- c stands between the two ends, in either order, or is one of them
abbrev pub is_between : ℕ → ℕ → ℕ → Bool
is_between a b c = (nat_le a c && nat_le c b) || (nat_le b c && nat_le c a)

-- c is a member of the set that these characters write: ranges `a-b`, and single characters. A `-` at the end is a character.
abbrev pub is_member : ℕ → List ℕ → Bool
is_member c [] = false
is_member c (a ∷ []) = c == a
is_member c (a ∷ d ∷ []) = (c == a) || (c == d)
is_member c (a ∷ d ∷ b ∷ s) = if d == 45 then is_between a b c || is_member c s else (c == a) || is_member c (d ∷ b ∷ s)

-- a character other than `]`
abbrev pub is_open : ℕ → Bool
is_open c = not (c == 93)

-- the escaped character, of which there is none at the end
abbrev pub is_escaped : ℕ → List ℕ → Bool
is_escaped c [] = false
is_escaped c (x ∷ p) = c == x

-- The part of a pattern that begins with the mark and goes on in p fits the character c: `?` fits any; `[` a member of the set up to the
-- next `]`, or to the end; a backslash the character behind it; another mark itself.
abbrev pub fits_one : ℕ → List ℕ → ℕ → Bool
fits_one mark p c =
    if mark == 63 then true else (if mark == 91 then is_member c (take_while is_open p) else (if mark == 92 then is_escaped c p else c == mark))

-- how many characters of p that part takes: the set and its `]`, the escaped character, or none
abbrev pub taken : ℕ → List ℕ → ℕ
taken mark p = if mark == 91 then prefix_len is_open p + 1 else (if mark == 92 then 1 else 0)

-- the text, or what is left of it from some place on, passes
abbrev pub somewhere : (List ℕ → Bool) → List ℕ → Bool
somewhere f [] = f []
somewhere f (c ∷ t) = f (c ∷ t) || somewhere f t

-- the text begins with a character that passes, before a rest that passes
abbrev pub begins : (ℕ → Bool) → (List ℕ → Bool) → List ℕ → Bool
begins one f [] = false
begins one f (c ∷ t) = one c && f t

abbrev pub is_empty : List ℕ → Bool
is_empty [] = true
is_empty (c ∷ t) = false

-- The pattern behind its first n characters fits the text. The empty pattern fits only the empty text; `*` before a pattern fits a text that ends with
-- one that the pattern fits; another part before a pattern fits one character before a text that the pattern fits.
abbrev pub fits_behind : ℕ → List ℕ → List ℕ → Bool
fits_behind n [] t = is_empty t
fits_behind (suc n) (mark ∷ p) t = fits_behind n p t
fits_behind zero (mark ∷ p) t = if mark == 42 then somewhere (fits_behind 0 p) t else begins (fits_one mark p) (fits_behind (taken mark p) p) t

abbrev pub fits : List ℕ → List ℕ → Bool
fits p t = fits_behind 0 p t

-- the text, with ASCII letters in lower case where case counts for nothing
abbrev pub folded_char : Bool → ℕ → ℕ
folded_char nocase c = if nocase then to_ascii_lowercase c else c

abbrev pub folded : Bool → List ℕ → List ℕ
folded nocase t = map (folded_char nocase) t

-- the pattern fits the text
abbrev pub matches : Bool → List ℕ → List ℕ → Bool
matches nocase p t = fits (folded nocase p) (folded nocase t)
