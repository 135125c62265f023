-- Rows of the subcommands that put a text into another.
use Rattle.std.specs.Prelude.{ℕ, ◌+◌, nat_lt, if◌then◌else◌, min, List, [], ◌∷◌, length, ℤ, pos, ◌+ℤ◌}
use Rattle.tclv_model.specs.declared.usages.Usage.TheVariants as usage
use Rattle.tclv_model.specs.Usages.{usage_of}
use Rattle.tclv_model.specs.Rows.{RowAnswer, Gives, and_then, wrong_count}
use Rattle.tclv_model.specs.Values.{place_of, raised}
use Rattle.tclv_strings.specs.Places.{text_filled}

-- the text with another one in place of a part, if something stands there
abbrev pub filled_if_some : ℕ → ℕ → List ℕ → List ℕ → List ℕ
filled_if_some from to new text = if nat_lt from to then text_filled from to new text else text

-- the text with another one in place of what stands from one place up to and with another, as far as the text has it
abbrev pub with_replaced : List ℕ → ℤ → ℤ → List ℕ → List ℕ
with_replaced text first last new = filled_if_some (min (raised first) (length text)) (min (raised (last +ℤ pos 1)) (length text)) new text

abbrev pub text_replaced : List ℕ → List ℕ → List ℕ → List ℕ → RowAnswer
text_replaced text first last new =
    and_then (place_of first (length text)) (λ a.
    and_then (place_of last (length text)) (λ b. Gives (with_replaced text a b new)))

-- `string replace string first last ?string?`
abbrev pub row_replace : List ℕ → List (List ℕ) → RowAnswer
row_replace call (sub ∷ text ∷ first ∷ last ∷ []) = text_replaced text first last []
row_replace call (sub ∷ text ∷ first ∷ last ∷ new ∷ []) = text_replaced text first last new
row_replace call _ = wrong_count call (usage_of usage.StringReplace)

-- the text with another one before a place, which is from 0 up to its end
abbrev pub with_inserted : List ℕ → ℤ → List ℕ → List ℕ
with_inserted text place new = let at = min (raised place) (length text) in text_filled at at new text

-- `end` names the place behind the last character.
abbrev pub text_inserted : List ℕ → List ℕ → List ℕ → RowAnswer
text_inserted text place new = and_then (place_of place (length text + 1)) (λ z. Gives (with_inserted text z new))

-- `string insert string index insertString`
abbrev pub row_insert : List ℕ → List (List ℕ) → RowAnswer
row_insert call (sub ∷ text ∷ place ∷ new ∷ []) = text_inserted text place new
row_insert call _ = wrong_count call (usage_of usage.StringInsert)
