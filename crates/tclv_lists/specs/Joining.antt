-- Rows of the commands that join texts and split them.
use Rattle.std.specs.Prelude.{ℕ, ◌+◌, ◌-◌, Bool, true, false, ◌==◌, if◌then◌else◌, List, [], ◌∷◌, ◌++◌, length, take, drop, map, filter, slice_index, codes}
use Rattle.std.specs.List.{list_any, prefix_len, suffix_len, slice_split}
use Rattle.tclv_text.specs.Characters.{is_space}
use Rattle.tclv_text.specs.Quotes.{list_text}
use Rattle.tclv_model.specs.declared.usages.Usage.TheVariants as command
use Rattle.tclv_model.specs.Usages.{usage_of}
use Rattle.tclv_model.specs.Rows.{RowAnswer, Gives, and_then, wrong_count}
use Rattle.tclv_model.specs.Values.{list_of}

-- each of the texts behind a separator
abbrev pub behind : List ℕ → List (List ℕ) → List ℕ
behind separator [] = []
behind separator (t ∷ ts) = separator ++ (t ++ behind separator ts)

-- the texts with a separator between them
abbrev pub joined : List ℕ → List (List ℕ) → List ℕ
joined separator [] = []
joined separator (t ∷ ts) = t ++ behind separator ts

-- `join list ?joinString?`: the elements with the string between them, or with a space
abbrev pub joined_of : List ℕ → List ℕ → RowAnswer
joined_of list separator = and_then (list_of list) (λ ts. Gives (joined separator ts))

abbrev pub row_join : List ℕ → List (List ℕ) → RowAnswer
row_join call (list ∷ []) = joined_of list (codes " ")
row_join call (list ∷ separator ∷ []) = joined_of list separator
row_join call _ = wrong_count call (usage_of command.Join)

-- a backslash comes last
abbrev pub ends_in_backslash : List ℕ → Bool
ends_in_backslash t = slice_index t (length t - 1) == 92

-- the text without the white space at its ends, but with one that stands behind a backslash
abbrev pub trimmed : List ℕ → List ℕ
trimmed t =
    let u = drop (prefix_len is_space t) t in
    let n = length u - suffix_len is_space u in
    take (if ends_in_backslash (take n u) then n + 1 else n) u

abbrev pub has_characters : List ℕ → Bool
has_characters [] = false
has_characters (c ∷ cs) = true

-- the texts that are not empty, with a space between them
abbrev pub spaced : List (List ℕ) → List ℕ
spaced ts = joined (codes " ") (filter has_characters ts)

-- the texts as one: each without the white space at its ends, and a space between those that are not empty then
abbrev pub concatenated : List (List ℕ) → List ℕ
concatenated words = spaced (map trimmed words)

-- `concat ?arg ...?`
abbrev pub row_concat : List ℕ → List (List ℕ) → RowAnswer
row_concat call words = Gives (concatenated words)

abbrev pub single : ℕ → List ℕ
single c = c ∷ []

abbrev pub is_one_of : List ℕ → ℕ → Bool
is_one_of cs c = list_any (λ x. c == x) cs

-- The parts of a text between separators, each a character of a text; without separators, its characters. The empty text has no parts.
abbrev pub split_parts : List ℕ → List ℕ → List (List ℕ)
split_parts separators [] = []
split_parts [] (c ∷ text) = map single (c ∷ text)
split_parts (s ∷ separators) (c ∷ text) = slice_split (is_one_of (s ∷ separators)) (c ∷ text)

-- `split string ?splitChars?`: the list of the parts of the string between characters of the text; by default space, tab, newline and carriage return
abbrev pub row_split : List ℕ → List (List ℕ) → RowAnswer
row_split call (text ∷ []) = Gives (list_text (split_parts (32 ∷ 9 ∷ 10 ∷ 13 ∷ []) text))
row_split call (text ∷ separators ∷ []) = Gives (list_text (split_parts separators text))
row_split call _ = wrong_count call (usage_of command.Split)
