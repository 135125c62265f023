-- The row of `lseq`.
use Rattle.std.specs.Prelude.{ℕ, zero, suc, ◌+◌, ◌/◌, ◌^◌, Bool, nat_lt, ◌||◌, if◌then◌else◌, List, [], ◌∷◌, Option, Some, None, ℤ, pos, negsuc, ◌-ℤ◌, int_lt, unsigned_abs, slice_index_or, codes}
use Rattle.std.specs.List.{list_all, range_with_len}
use Rattle.std.specs.Option.{option_map}
use Rattle.std.specs.Ordering.{int_eq}
use Rattle.std.specs.Str.{bytes_eq, encode_utf8_all}
use Rattle.tclv_text.specs.Quotes.{list_text}
use Rattle.tclv_model.specs.declared.messages.MessageId.TheVariants.{ListTooLong}
use Rattle.tclv_model.specs.declared.usages.Usage.TheVariants as command
use Rattle.tclv_model.specs.Usages.{usage_of}
use Rattle.tclv_model.specs.Rows.{Answer, RowAnswer, Gives, and_then, says, wrong_count}
use Rattle.tclv_model.specs.Values.{whole_of, too_large, raised}
use Rattle.tclv_value.specs.Sequences.{number_at, sequence}
use Rattle.tclv_lists.specs.declared.sequences.Link.{Link}
use Rattle.tclv_lists.specs.declared.sequences.Link.TheVariants.{To, Count, By, Other}

-- a number of 64 bits
abbrev pub is_word : ℤ → Bool
is_word (pos n) = nat_lt n (2 ^ 63)
is_word (negsuc n) = nat_lt n (2 ^ 63)

-- the list of so many numbers from a start on, at most 2^62, each of which must have 64 bits
abbrev pub sequence_of : ℤ → ℤ → ℕ → RowAnswer
sequence_of start step count =
    if nat_lt (2 ^ 62) count then says ListTooLong [] [] else (
    if list_all (λ k. is_word (number_at start step k)) (range_with_len 0 count) then Gives (list_text (sequence start step count)) else too_large)

-- how many numbers there are from 0 up to a distance, at steps of a size; none at steps of 0
abbrev pub count_within : ℤ → ℕ → ℕ
count_within distance zero = 0
count_within (pos distance) (suc size) = distance / suc size + 1
count_within (negsuc distance) (suc size) = 0

-- how many numbers there are from a start on that don't pass the end; at a step of 0, or away from the end, there is none
abbrev pub count_to : ℤ → ℤ → ℤ → ℕ
count_to start end step = if int_lt step (pos 0) then count_within (start -ℤ end) (unsigned_abs step) else count_within (end -ℤ start) (unsigned_abs step)

-- the numbers from a start on that don't pass the end
abbrev pub up_to : ℤ → ℤ → ℤ → RowAnswer
up_to start end step = sequence_of start step (count_to start end step)

-- So many numbers from a start on; none where the count is negative or the step is 0.
abbrev pub counted : ℤ → ℤ → ℤ → RowAnswer
counted start count step = sequence_of start step (if int_eq step (pos 0) then 0 else raised count)

-- the step where none is given: 1, or -1 where the start is above the end
abbrev pub step_towards : ℤ → ℤ → ℤ
step_towards start end = if int_lt end start then negsuc 0 else pos 1

-- the number that a word is, or another where there is no word
abbrev pub whole_or : ℤ → Option (List ℕ) → Answer ℤ
whole_or z None = Gives z
whole_or z (Some word) = whole_of word

-- the numbers from a start up to an end, at the step that a word is
abbrev pub stepping : ℤ → ℤ → Option (List ℕ) → RowAnswer
stepping start end s = and_then (whole_or (step_towards start end) s) (λ step. up_to start end step)

-- `a b s`: the numbers from a start up to an end, at a step
abbrev pub from_to : List ℕ → List ℕ → Option (List ℕ) → RowAnswer
from_to a b s = and_then (whole_of a) (λ start. and_then (whole_of b) (λ end. stepping start end s))

-- `a count n by s`: so many numbers from a start on, at a step
abbrev pub counting : Option (List ℕ) → List ℕ → Option (List ℕ) → RowAnswer
counting a n s =
    and_then (whole_or (pos 0) a) (λ start.
    and_then (whole_of n) (λ count.
    and_then (whole_or (pos 1) s) (λ step. counted start count step)))

-- whether the UTF-8 bytes of a word are these
abbrev pub is_literal : List ℕ → List ℕ → Bool
is_literal literal word = bytes_eq (encode_utf8_all word) literal

-- what a word says of the numbers beside it
abbrev pub link_of : List ℕ → Link
link_of word =
    if is_literal (codes "..") word || is_literal (codes "to") word then To else (if is_literal (codes "count") word then Count else (if is_literal (codes "by") word then By else Other))

-- the list of numbers that `a op b` describes, with a step if one is given; otherwise another answer
abbrev pub linked : Link → List ℕ → List ℕ → Option (List ℕ) → RowAnswer → RowAnswer
linked To a b s other = from_to a b s
linked Count a b s other = counting (Some a) b s
linked By a b s other = other
linked Other a b s other = other

-- the one answer behind `by`, and another behind other words
abbrev pub behind_by : Link → RowAnswer → RowAnswer → RowAnswer
behind_by By answer other = answer
behind_by _ answer other = other

abbrev pub lseq_count : List ℕ → RowAnswer
lseq_count call = wrong_count call (usage_of command.Lseq)

-- `n by s`, `a op b` or `a b s`
abbrev pub three_words : List ℕ → List ℕ → List ℕ → RowAnswer
three_words a op b = behind_by (link_of op) (counting None a (Some b)) (linked (link_of op) a b None (from_to a op (Some b)))

-- `a op b s` or `a b by s`
abbrev pub four_words : List ℕ → List ℕ → List ℕ → List ℕ → List ℕ → RowAnswer
four_words call a op b s = linked (link_of op) a b (Some s) (behind_by (link_of b) (from_to a op (Some s)) (lseq_count call))

-- `a op b by s`
abbrev pub five_words : List ℕ → List ℕ → List ℕ → List ℕ → List ℕ → List ℕ → RowAnswer
five_words call a op b by s = behind_by (link_of by) (linked (link_of op) a b (Some s) (lseq_count call)) (lseq_count call)

-- `lseq n ??op? n ??by? n??`: the list of numbers that the words describe. `n` is a count from 0, `a b` a start and an end; `a op b` is with `..` and `to` a start and an
-- end, and with `count` a start and a count. A step stands behind, with `by` before it or without.
abbrev pub row_lseq : List ℕ → List (List ℕ) → RowAnswer
row_lseq call (n ∷ []) = counting None n None
row_lseq call (a ∷ b ∷ []) = from_to a b None
row_lseq call (a ∷ op ∷ b ∷ []) = three_words a op b
row_lseq call (a ∷ op ∷ b ∷ s ∷ []) = four_words call a op b s
row_lseq call (a ∷ op ∷ b ∷ by ∷ s ∷ []) = five_words call a op b by s
row_lseq call _ = lseq_count call

-- the text of a stack at a place, if there is one
abbrev pub word_at : List (List ℕ) → Option ℕ → Option (List ℕ)
word_at stack at = option_map (λ k. slice_index_or stack k []) at
