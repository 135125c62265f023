-- Rows of the subcommands that give a part of a text.
use Rattle.std.specs.Prelude.{ℕ, List, [], ◌∷◌, length, take, drop, ℤ, pos, ◌+ℤ◌, Option, Some, None}
use Rattle.tclv_model.specs.declared.usages.Usage.TheVariants as usage
use Rattle.tclv_model.specs.Usages.{usage_of}
use Rattle.tclv_model.specs.Rows.{RowAnswer, Gives, and_then, wrong_count}
use Rattle.tclv_model.specs.Values.{place_of, raised}
use Rattle.tclv_reply.specs.Places.{place_among}
use Rattle.tclv_strings.specs.Places.{text_between}

-- the character at a place, as a text; outside the empty one
abbrev pub character_at : List ℕ → Option ℕ → List ℕ
character_at text (Some k) = take 1 (drop k text)
character_at text None = []

abbrev pub character_of : List ℕ → List ℕ → RowAnswer
character_of text place = and_then (place_of place (length text)) (λ z. Gives (character_at text (place_among (length text) z)))

-- `string index string charIndex`
abbrev pub row_index : List ℕ → List (List ℕ) → RowAnswer
row_index call (sub ∷ text ∷ place ∷ []) = character_of text place
row_index call _ = wrong_count call (usage_of usage.StringIndex)

-- what stands from one place up to and with another, as far as the text has it
abbrev pub between_places : List ℕ → ℤ → ℤ → List ℕ
between_places text first last = text_between (raised first) (raised (last +ℤ pos 1)) text

abbrev pub part_of : List ℕ → List ℕ → List ℕ → RowAnswer
part_of text first last =
    and_then (place_of first (length text)) (λ a.
    and_then (place_of last (length text)) (λ b. Gives (between_places text a b)))

-- `string range string first last`
abbrev pub row_range : List ℕ → List (List ℕ) → RowAnswer
row_range call (sub ∷ text ∷ first ∷ last ∷ []) = part_of text first last
row_range call _ = wrong_count call (usage_of usage.StringRange)
