-- Rows of the commands that read a list.
use Rattle.std.specs.Prelude.{ℕ, ◌-◌, List, [], ◌∷◌, length, take, drop, ℤ, pos, ◌+ℤ◌}
use Rattle.tclv_text.specs.Numbers.{whole_text}
use Rattle.tclv_text.specs.Quotes.{list_text}
use Rattle.tclv_model.specs.declared.usages.Usage.TheVariants as command
use Rattle.tclv_model.specs.Usages.{usage_of}
use Rattle.tclv_model.specs.Rows.{RowAnswer, Gives, and_then, wrong_count}
use Rattle.tclv_model.specs.Values.{list_of, place_of, raised}
use Rattle.tclv_lists.specs.Paths.{path_of, element_at}

-- `llength list`: the number of elements
abbrev pub length_of : List ℕ → RowAnswer
length_of list = and_then (list_of list) (λ ts. Gives (whole_text (pos (length ts))))

abbrev pub row_llength : List ℕ → List (List ℕ) → RowAnswer
row_llength call (list ∷ []) = length_of list
row_llength call _ = wrong_count call (usage_of command.Llength)

-- `lindex list ?index ...?`: the element at the end of the path of indices; without any, the text itself
abbrev pub row_lindex : List ℕ → List (List ℕ) → RowAnswer
row_lindex call (list ∷ words) = element_at list (path_of words)
row_lindex call _ = wrong_count call (usage_of command.Lindex)

-- the elements from one place up to and with another, as far as the list has them
abbrev pub elements_between : List (List ℕ) → ℤ → ℤ → List (List ℕ)
elements_between ts first last = let from = raised first in take (raised (last +ℤ pos 1) - from) (drop from ts)

-- `lrange list first last`: the elements from the first place up to and with the last
abbrev pub range_of : List ℕ → List ℕ → List ℕ → RowAnswer
range_of list first last =
    and_then (list_of list) (λ ts.
    and_then (place_of first (length ts)) (λ a.
    and_then (place_of last (length ts)) (λ b. Gives (list_text (elements_between ts a b)))))

abbrev pub row_lrange : List ℕ → List (List ℕ) → RowAnswer
row_lrange call (list ∷ first ∷ last ∷ []) = range_of list first last
row_lrange call _ = wrong_count call (usage_of command.Lrange)
