-- Rows of the commands that give a changed list.
use Rattle.std.specs.Prelude.{◌≡◌, ◌<◌, ◌≤◌, ℕ, ◌+◌, Bool, true, false, if◌then◌else◌, min, max, List, [], ◌∷◌, length, reverse, ℤ, pos, ◌+ℤ◌, slice_index_or, slice_set}
use Rattle.std.specs.List.{list_any}
use Rattle.std.specs.Ordering.{int_eq}
use Rattle.std.specs.Option.{option_map_or}
use Rattle.tclv_text.specs.Quotes.{list_text}
use Rattle.tclv_value.specs.Lists.{replaced}
use Rattle.tclv_model.specs.declared.usages.Usage.TheVariants as command
use Rattle.tclv_model.specs.Usages.{usage_of}
use Rattle.tclv_model.specs.Rows.{Answer, RowAnswer, Gives, and_then, wrong_count}
use Rattle.tclv_model.specs.Values.{list_of, place_of, raised}
use Rattle.tclv_reply.specs.Places.{place_among}

-- `lreverse list`: the elements from the last to the first
abbrev pub reversed_of : List ℕ → RowAnswer
reversed_of list = and_then (list_of list) (λ ts. Gives (list_text (reverse ts)))

abbrev pub row_lreverse : List ℕ → List (List ℕ) → RowAnswer
row_lreverse call (list ∷ []) = reversed_of list
row_lreverse call _ = wrong_count call (usage_of command.Lreverse)

-- A list that gives way at a part: its elements, where that part begins, and where it ends.
pub record Gap : Type 0 where
  pub list : List (List ℕ)
  pub from : ℕ
  pub to : ℕ

-- the part from one place up to and with another, as far as the list has it; where the last is before the first, the empty part before the first
abbrev pub gap_between : List ℕ → List ℕ → List ℕ → Answer Gap
gap_between list first last =
    and_then (list_of list) (λ ts.
    and_then (place_of first (length ts)) (λ a.
    and_then (place_of last (length ts)) (λ b.
    let from = min (raised a) (length ts) in Gives (record { list = ts; from = from; to = max from (min (raised (b +ℤ pos 1)) (length ts)) }))))

-- the empty part before a place, which for `end` is behind the last element
abbrev pub gap_before : List ℕ → List ℕ → Answer Gap
gap_before list place =
    and_then (list_of list) (λ ts.
    and_then (place_of place (length ts + 1)) (λ k.
    let at = min (raised k) (length ts) in Gives (record { list = ts; from = at; to = at })))

-- the list with words in place of the part
abbrev pub filled : Gap → List (List ℕ) → List ℕ
filled gap words = list_text (replaced gap.list gap.from gap.to words)

-- `lreplace list first last ?element ...?`: the list with the elements in place of those from the first place up to and with the last
abbrev pub replaced_of : List ℕ → List ℕ → List ℕ → List (List ℕ) → RowAnswer
replaced_of list first last words = and_then (gap_between list first last) (λ gap. Gives (filled gap words))

abbrev pub row_lreplace : List ℕ → List (List ℕ) → RowAnswer
row_lreplace call (list ∷ first ∷ last ∷ words) = replaced_of list first last words
row_lreplace call _ = wrong_count call (usage_of command.Lreplace)

-- `linsert list index ?element ...?`: the list with the elements before the place
abbrev pub inserted_of : List ℕ → List ℕ → List (List ℕ) → RowAnswer
inserted_of list place words = and_then (gap_before list place) (λ gap. Gives (filled gap words))

abbrev pub row_linsert : List ℕ → List (List ℕ) → RowAnswer
row_linsert call (list ∷ place ∷ words) = inserted_of list place words
row_linsert call _ = wrong_count call (usage_of command.Linsert)

-- the places that texts name, read from the left
abbrev pub places_of : List (List ℕ) → ℕ → Answer (List ℤ)
places_of [] len = Gives []
places_of (i ∷ is) len = and_then (place_of i len) (λ k. and_then (places_of is len) (λ ks. Gives (k ∷ ks)))

-- the elements whose places, counted from n on, are none of these
abbrev pub without_from : ℕ → List ℤ → List (List ℕ) → List (List ℕ)
without_from n ks [] = []
without_from n ks (t ∷ ts) = if list_any (int_eq (pos n)) ks then without_from (n + 1) ks ts else t ∷ without_from (n + 1) ks ts

-- Of each place below a length the marks say whether it is one of these.
pub record IsMarked (len : ℕ) (ks : List ℤ) (marks : List Bool) : Type 0 where
  pub count : length marks ≡ len
  pub marked : (n : ℕ) → n < len → slice_index_or marks n false ≡ list_any (int_eq (pos n)) ks

-- the marks with one more, if the place is below their number
abbrev pub with_mark : ℤ → List Bool → List Bool
with_mark z marks = option_map_or (λ k. slice_set marks k true) (place_among (length marks) z) marks

-- `lremove list ?index ...?`: the list without the elements at the places
abbrev pub removed_of : List ℕ → List (List ℕ) → RowAnswer
removed_of list words =
    and_then (list_of list) (λ ts.
    and_then (places_of words (length ts)) (λ ks. Gives (list_text (without_from 0 ks ts))))

abbrev pub row_lremove : List ℕ → List (List ℕ) → RowAnswer
row_lremove call (list ∷ words) = removed_of list words
row_lremove call _ = wrong_count call (usage_of command.Lremove)

-- The ends are those of the part, within the list, which is that of a text.
pub record IsGap (text : List ℕ) (gap : Gap) (from to : ℕ) : Type 0 where
  pub list_is : list_of text ≡ Gives gap.list
  pub from_is : from ≡ gap.from
  pub to_is : to ≡ gap.to
  pub order : from ≤ to
  pub within : to ≤ length gap.list
