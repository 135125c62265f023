-- The row of `lsort`.
use Rattle.std.specs.Prelude.{◌≡◌, ◌<◌, ℕ, Bool, true, false, if◌then◌else◌, List, [], ◌∷◌, length, take, map, slice_index_or, Option, Some, None, codes}
use Rattle.std.specs.List.{All}
use Rattle.std.specs.Option.{option_map, option_map_or}
use Rattle.std.specs.declared.cmp.Ordering.{Ordering}
use Rattle.std.specs.declared.cmp.Ordering.TheVariants.{Less, Greater}
use Rattle.std.specs.Ordering.{nat_cmp, int_cmp, is_lt}
use Rattle.std.specs.Cmp.Lexicographic.{slice_cmp}
use Rattle.std.specs.Str.{bytes_eq}
use Rattle.tclv_text.specs.Globs.{folded}
use Rattle.tclv_text.specs.Quotes.{list_text}
use Rattle.tclv_model.specs.declared.messages.MessageId.TheVariants.{MissingSublistElement}
use Rattle.tclv_model.specs.declared.usages.Usage.TheVariants as command
use Rattle.tclv_model.specs.Usages.{usage_of}
use Rattle.tclv_model.specs.Rows.{Answer, RowAnswer, Gives, and_then, says, wrong_count}
use Rattle.tclv_model.specs.Values.{list_of, place_of, whole_of}
use Rattle.tclv_lists.specs.declared.sorting.Comparison.{Comparison}
use Rattle.tclv_lists.specs.declared.sorting.Comparison.TheVariants.{Ascii, Integer}
use Rattle.tclv_lists.specs.declared.sorting.Direction.{Direction}
use Rattle.tclv_lists.specs.declared.sorting.Direction.TheVariants.{Increasing, Decreasing}
use Rattle.tclv_lists.specs.declared.sorting.Order.{Order}
use Rattle.tclv_lists.specs.declared.sorting.Key.{Key}
use Rattle.tclv_lists.specs.declared.sorting.Key.TheVariants.{Number, Word}
use Rattle.tclv_lists.specs.declared.sorting.Entry.{Entry}
use Rattle.tclv_lists.specs.declared.sorting.OrderOption.{OrderOption}
use Rattle.tclv_lists.specs.declared.sorting.OrderOption.TheVariants as option
use Rattle.tclv_reply.specs.Options.{Options, known_or_bad, options_read}
use Rattle.tclv_lists.specs.Paths.{element}

-- without options: the elements themselves, as texts, in increasing order
abbrev pub plain_order : Order
plain_order = record { comparison = Ascii; nocase = false; direction = Increasing; unique = false }

-- the option without a value that a word is
abbrev pub order_option : List ℕ → Option OrderOption
order_option o =
    if bytes_eq o (codes "-ascii") then Some option.Ascii else (
    if bytes_eq o (codes "-integer") then Some option.Integer else (
    if bytes_eq o (codes "-nocase") then Some option.Nocase else (
    if bytes_eq o (codes "-increasing") then Some option.Increasing else (
    if bytes_eq o (codes "-decreasing") then Some option.Decreasing else (
    if bytes_eq o (codes "-unique") then Some option.Unique else None)))))

-- what it changes; the later of two that exclude each other counts
abbrev pub with_order_option : Order → OrderOption → Order
with_order_option s option.Ascii = record s { comparison = Ascii }
with_order_option s option.Integer = record s { comparison = Integer }
with_order_option s option.Nocase = record s { nocase = true }
with_order_option s option.Increasing = record s { direction = Increasing }
with_order_option s option.Decreasing = record s { direction = Decreasing }
with_order_option s option.Unique = record s { unique = true }

-- the settings after an option, if the word is one
abbrev pub order_after : List ℕ → Order → Option Order
order_after o s = option_map (with_order_option s) (order_option o)

abbrev pub lsort_count : {A : Type 0} → List ℕ → Answer A
lsort_count call = wrong_count call (usage_of command.Lsort)

abbrev pub order_options : List ℕ → List (List ℕ) → Answer (Options Order)
order_options call words = options_read (codes "-index") (λ o s. known_or_bad o (order_after o s)) (lsort_count call) words (record { settings = plain_order; index = None })

-- the text of an element that is compared
abbrev pub key_text : Option (List ℕ) → List ℕ → RowAnswer
key_text None t = Gives t
key_text (Some i) t =
    and_then (list_of t) (λ ts.
    and_then (place_of i (length ts)) (λ k. option_map_or Gives (element ts k) (says MissingSublistElement i t)))

abbrev pub key_read : Comparison → Bool → List ℕ → Answer Key
key_read Integer nocase u = and_then (whole_of u) (λ z. Gives (Number z))
key_read Ascii nocase u = Gives (Word (folded nocase u))

abbrev pub key_of : Order → Option (List ℕ) → List ℕ → Answer Key
key_of s place t = and_then (key_text place t) (λ u. key_read s.comparison s.nocase u)

-- the elements with their keys, which are read from the left
abbrev pub keyed : Order → Option (List ℕ) → List (List ℕ) → Answer (List (Key × List ℕ))
keyed s place [] = Gives []
keyed s place (t ∷ ts) = and_then (key_of s place t) (λ k. and_then (keyed s place ts) (λ es. Gives ((k, t) ∷ es)))

-- Keys in order: numbers by size, texts by their code points. No command has both; numbers go before texts.
abbrev pub key_cmp : Key → Key → Ordering
key_cmp (Number a) (Number b) = int_cmp a b
key_cmp (Number a) (Word b) = Less
key_cmp (Word a) (Number b) = Greater
key_cmp (Word a) (Word b) = slice_cmp nat_cmp a b

abbrev pub order_of : Direction → Key → Key → Ordering
order_of Increasing a b = key_cmp a b
order_of Decreasing a b = key_cmp b a

-- the first goes before the second, and is not its equal
abbrev pub goes_before : Direction → Key → Key → Bool
goes_before direction a b = is_lt (order_of direction a b)

-- the same of elements with their keys, and of entries, which have the keys of elements that stand on a stack
abbrev pub pair_before : Direction → Key × List ℕ → Key × List ℕ → Bool
pair_before direction a b = goes_before direction a.0 b.0

abbrev pub entry_before : Direction → Entry → Entry → Bool
entry_before direction a b = goes_before direction a.key b.key

abbrev pub text_in : List (List ℕ) → Entry → List ℕ
text_in stack e = slice_index_or stack e.at []

abbrev pub pair_of : List (List ℕ) → Entry → Key × List ℕ
pair_of stack e = (e.key, text_in stack e)

-- The entries are those of these elements.
pub record AreEntries (stack : List (List ℕ)) (es : List (Key × List ℕ)) (x : List Entry) : Type 0 where
  pub pairs : map (pair_of stack) x ≡ es
  pub within : All (λ e. e.at < length stack) x

-- An element put into a list that is in order: behind all that go before it, so before its equals.
abbrev pub put_in_order : {X : Type 0} → (X → X → Bool) → X → List X → List X
put_in_order before e [] = e ∷ []
put_in_order before e (f ∷ fs) = if before f e then f ∷ put_in_order before e fs else e ∷ f ∷ fs

-- the elements in order, where equals stay as they stand: each, from the last to the first, is put into those behind it
abbrev pub in_order : {X : Type 0} → (X → X → Bool) → List X → List X
in_order before [] = []
in_order before (e ∷ es) = put_in_order before e (in_order before es)

-- the first of elements in order is given: each, or the one that is not the equal of the next
abbrev pub is_given : {X : Type 0} → Bool → (X → X → Bool) → List X → Bool
is_given unique before [] = false
is_given unique before (e ∷ []) = true
is_given unique before (e ∷ f ∷ fs) = if unique then before e f else true

-- of elements in order, each, or the last of equals
abbrev pub given : {X : Type 0} → Bool → (X → X → Bool) → List X → List X
given unique before [] = []
given unique before (e ∷ es) = if is_given unique before (e ∷ es) then e ∷ given unique before es else given unique before es

abbrev pub sorted_texts : Order → List (Key × List ℕ) → List (List ℕ)
sorted_texts s es = let before = pair_before s.direction in map (λ e. e.1) (given s.unique before (in_order before es))

abbrev pub sorted_of : Order → Option (List ℕ) → List ℕ → RowAnswer
sorted_of s place list = and_then (list_of list) (λ ts. and_then (keyed s place ts) (λ es. Gives (list_text (sorted_texts s es))))

-- `lsort ?option ...? list`: the elements in order, where equals stay as they stand
abbrev pub row_lsort : List ℕ → List (List ℕ) → RowAnswer
row_lsort call [] = lsort_count call
row_lsort call (w ∷ ws) =
    let n = length ws in
    and_then (order_options call (take n (w ∷ ws))) (λ x. sorted_of x.settings x.index (slice_index_or (w ∷ ws) n []))
