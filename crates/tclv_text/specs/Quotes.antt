-- The canonical spelling of lists.
use Rattle.std.specs.Prelude.{ℕ, Bool, true, false, ◌&&◌, ◌||◌, ◌==◌, not, if◌then◌else◌, List, [], ◌∷◌, ◌++◌, Option, Some, None}
use Rattle.std.specs.List.{list_any}
use Rattle.tclv_text.specs.Characters.{is_space}
use Rattle.tclv_text.specs.Elements.{brace_step}

-- One character of a text that may stand between braces: as a reader of lists takes it, but no backslash stands before a newline.
abbrev pub fits_step : ℕ × Bool → ℕ → Option (ℕ × Bool)
fits_step (d, true) c = if c == 10 then None else Some (d, false)
fits_step (d, false) c = brace_step (d, false) c

abbrev pub fits_on : Option (ℕ × Bool) → (ℕ × Bool → Bool) → Bool
fits_on None rest = false
fits_on (Some s) rest = rest s

-- Whether the text may stand between braces, from a state on: how many braces are open, and whether a backslash stands before. The braces match outside pairs of a backslash and the character after it, and the text doesn't end inside such a pair.
abbrev pub fits_braces : ℕ × Bool → List ℕ → Bool
fits_braces s [] = (s.0 == 0) && not s.1
fits_braces s (c ∷ cs) = fits_on (fits_step s c) (λ t. fits_braces t cs)

-- white space, $, [, ; or a backslash
abbrev pub is_brace_worthy : ℕ → Bool
is_brace_worthy c = is_space c || ((c == 36) || ((c == 91) || ((c == 59) || (c == 92))))

abbrev pub wants_braces : List ℕ → Bool
wants_braces t = list_any is_brace_worthy t

-- { or " comes first
abbrev pub begins_marked : List ℕ → Bool
begins_marked [] = false
begins_marked (c ∷ cs) = (c == 123) || (c == 34)

-- ] or "
abbrev pub is_backslash_worthy : ℕ → Bool
is_backslash_worthy c = (c == 93) || (c == 34)

abbrev pub wants_backslashes : List ℕ → Bool
wants_backslashes t = list_any is_backslash_worthy t

-- # comes first
abbrev pub begins_comment : List ℕ → Bool
begins_comment [] = false
begins_comment (c ∷ cs) = c == 35

-- What follows the backslash in place of a character, if it wants one: t, n, v, f and r for the characters 9 to 13, and the character itself for space ] [ $ ; \ and ". Braces want one only in the full mode.
abbrev pub backslash_mark : Bool → ℕ → Option ℕ
backslash_mark full c =
    if c == 9 then Some 116 else (
    if c == 10 then Some 110 else (
    if c == 11 then Some 118 else (
    if c == 12 then Some 102 else (
    if c == 13 then Some 114 else (
    if c == 32 then Some 32 else (
    if c == 93 then Some 93 else (
    if c == 91 then Some 91 else (
    if c == 36 then Some 36 else (
    if c == 59 then Some 59 else (
    if c == 92 then Some 92 else (
    if c == 34 then Some 34 else (
    if c == 123 then (if full then Some 123 else None) else (
    if c == 125 then (if full then Some 125 else None) else None)))))))))))))

abbrev pub with_mark : ℕ → Option ℕ → List ℕ
with_mark c None = c ∷ []
with_mark c (Some k) = 92 ∷ k ∷ []

abbrev pub backslashed : Bool → List ℕ → List ℕ
backslashed full [] = []
backslashed full (c ∷ cs) = with_mark c (backslash_mark full c) ++ backslashed full cs

-- a leading # of the first element gets a backslash too
abbrev pub backslashed_first : Bool → Bool → List ℕ → List ℕ
backslashed_first first full t = if first && begins_comment t then 92 ∷ backslashed full t else backslashed full t

abbrev pub in_braces : List ℕ → List ℕ
in_braces t = 123 ∷ (t ++ 125 ∷ [])

-- The spelling of an element that isn't empty, by the first of these that holds: full backslashes where it can't stand in braces, braces where it holds what a bare element can't or begins with a mark, backslashes that leave braces alone where it holds ] or ", braces where it is the first of its list and begins with #, and else as it is.
unfoldable pub quoted_some : List ℕ → Bool → List ℕ
quoted_some t first =
    if not (fits_braces (0, false) t) then backslashed_first first true t else (
    if wants_braces t || begins_marked t then in_braces t else (
    if wants_backslashes t then backslashed_first first false t else (
    if first && begins_comment t then in_braces t else t)))

-- The canonical spelling of an element, which may be the first of its list.
unfoldable pub quoted : List ℕ → Bool → List ℕ
quoted [] first = in_braces []
quoted (c ∷ cs) first = quoted_some (c ∷ cs) first

-- the spellings of further elements, each behind a space
abbrev pub further : List (List ℕ) → List ℕ
further [] = []
further (t ∷ ts) = 32 ∷ (quoted t false ++ further ts)

-- the canonical text of a list
abbrev pub list_text : List (List ℕ) → List ℕ
list_text [] = []
list_text (t ∷ ts) = quoted t true ++ further ts
