-- Rows of the subcommands that look for a text in another.
use Rattle.std.specs.Prelude.{ℕ, ◌+◌, Bool, false, nat_eq, if◌then◌else◌, List, [], ◌∷◌, length, take, drop, Option, Some, None, pos, negsuc, ◌+ℤ◌}
use Rattle.std.specs.List.{starts_with}
use Rattle.tclv_text.specs.Numbers.{whole_text}
use Rattle.tclv_model.specs.declared.usages.Usage.TheVariants as usage
use Rattle.tclv_model.specs.Usages.{usage_of}
use Rattle.tclv_model.specs.Rows.{RowAnswer, Gives, and_then, wrong_count}
use Rattle.tclv_model.specs.Values.{place_of, raised}

-- The text begins with the needle. An empty needle stands nowhere.
abbrev pub stands_before : List ℕ → List ℕ → Bool
stands_before [] text = false
stands_before (c ∷ needle) text = starts_with nat_eq text (c ∷ needle)

-- the first place of a text at which the needle stands, where its first character is at place k
abbrev pub first_place : List ℕ → ℕ → List ℕ → Option ℕ
first_place needle k [] = None
first_place needle k (c ∷ text) = if stands_before needle (c ∷ text) then Some k else first_place needle (k + 1) text

abbrev pub or_here : Option ℕ → Bool → ℕ → Option ℕ
or_here (Some later) stands k = Some later
or_here None stands k = if stands then Some k else None

-- the last such place
abbrev pub last_place : List ℕ → ℕ → List ℕ → Option ℕ
last_place needle k [] = None
last_place needle k (c ∷ text) = or_here (last_place needle (k + 1) text) (stands_before needle (c ∷ text)) k

-- the first from a place on, and the last in what stands before a place
abbrev pub first_from : List ℕ → ℕ → List ℕ → Option ℕ
first_from needle from text = first_place needle from (drop from text)

abbrev pub last_before : List ℕ → ℕ → List ℕ → Option ℕ
last_before needle to text = last_place needle 0 (take to text)

-- the number of a place, or -1
abbrev pub place_text : Option ℕ → List ℕ
place_text (Some k) = whole_text (pos k)
place_text None = whole_text (negsuc 0)

abbrev pub found_first : List ℕ → List ℕ → List ℕ → RowAnswer
found_first needle text start = and_then (place_of start (length text)) (λ z. Gives (place_text (first_from needle (raised z) text)))

-- `string first needle haystack ?startIndex?`
abbrev pub row_first : List ℕ → List (List ℕ) → RowAnswer
row_first call (sub ∷ needle ∷ text ∷ []) = Gives (place_text (first_from needle 0 text))
row_first call (sub ∷ needle ∷ text ∷ start ∷ []) = found_first needle text start
row_first call _ = wrong_count call (usage_of usage.StringFirst)

abbrev pub found_last : List ℕ → List ℕ → List ℕ → RowAnswer
found_last needle text last = and_then (place_of last (length text)) (λ z. Gives (place_text (last_before needle (raised (z +ℤ pos 1)) text)))

-- `string last needle haystack ?lastIndex?`
abbrev pub row_last : List ℕ → List (List ℕ) → RowAnswer
row_last call (sub ∷ needle ∷ text ∷ []) = Gives (place_text (last_place needle 0 text))
row_last call (sub ∷ needle ∷ text ∷ last ∷ []) = found_last needle text last
row_last call _ = wrong_count call (usage_of usage.StringLast)
