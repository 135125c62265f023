-- Rows of the subcommands of `string` that compare texts: `equal`, `compare` and `match`.
use Rattle.std.specs.Prelude.{ℕ, ◌-◌, Bool, true, false, ◌||◌, nat_lt, if◌then◌else◌, List, [], ◌∷◌, length, take, drop, slice_index_or, Option, Some, None, ℤ, pos, negsuc, codes}
use Rattle.std.specs.Ordering.{nat_cmp}
use Rattle.std.specs.Cmp.Lexicographic.{slice_cmp}
use Rattle.std.specs.declared.cmp.Ordering.{Ordering}
use Rattle.std.specs.declared.cmp.Ordering.TheVariants.{Less, Equal, Greater}
use Rattle.std.specs.Str.{bytes_eq}
use Rattle.tclv_text.specs.Globs.{folded, matches}
use Rattle.tclv_text.specs.Numbers.{whole_text}
use Rattle.tclv_model.specs.declared.messages.MessageId.TheVariants.{BadOption}
use Rattle.tclv_model.specs.declared.usages.Usage.{Usage}
use Rattle.tclv_model.specs.declared.usages.Usage.TheVariants as command
use Rattle.tclv_model.specs.Usages.{usage_of}
use Rattle.tclv_model.specs.Rows.{Answer, RowAnswer, Gives, and_then, says, wrong_count}
use Rattle.tclv_model.specs.Values.{whole_of}
use Rattle.tclv_strings.specs.declared.comparing.ComparedAs.{ComparedAs}
use Rattle.tclv_strings.specs.declared.comparing.Verdict.{Verdict}
use Rattle.tclv_strings.specs.declared.comparing.Verdict.TheVariants as verdict

-- 1 where it holds, else 0
abbrev pub truth_digit : Bool → List ℕ
truth_digit true = codes "1"
truth_digit false = codes "0"

-- without options: whole texts, in their case
abbrev pub compared_whole : ComparedAs
compared_whole = record { nocase = false; len = None }

-- the word must be the option `-nocase`
abbrev pub nocase_read : List ℕ → Answer Bool
nocase_read o = if bytes_eq o (codes "-nocase") then Gives true else says BadOption o []

abbrev pub with_case : ComparedAs → Bool → ComparedAs
with_case x nocase = record { nocase = nocase; len = x.len }

abbrev pub with_len : ComparedAs → ℤ → ComparedAs
with_len x n = record { nocase = x.nocase; len = Some n }

-- The options from the left. `-length` has a value, which must be a whole number; missing is the answer where the value isn't there.
abbrev pub comparison_read : Answer ComparedAs → List (List ℕ) → ComparedAs → Answer ComparedAs
comparison_read missing [] x = Gives x
comparison_read missing (o ∷ []) x = if bytes_eq o (codes "-length") then missing else and_then (nocase_read o) (λ b. Gives (with_case x b))
comparison_read missing (o ∷ v ∷ os) x =
    if bytes_eq o (codes "-length")
    then and_then (whole_of v) (λ n. comparison_read missing os (with_len x n))
    else and_then (nocase_read o) (λ b. comparison_read missing (v ∷ os) (with_case x b))

-- the first code points of a text, as many as the number says; a negative number counts for nothing
abbrev pub part_compared : Option ℤ → List ℕ → List ℕ
part_compared None t = t
part_compared (Some (pos n)) t = take n t
part_compared (Some (negsuc n)) t = t

-- what is compared of a text
abbrev pub seen_as : ComparedAs → List ℕ → List ℕ
seen_as x t = folded x.nocase (part_compared x.len t)

-- whether the texts are the same
abbrev pub are_equal : ComparedAs → List ℕ → List ℕ → Bool
are_equal x one other = bytes_eq (seen_as x one) (seen_as x other)

-- which one comes first, by the first code points that differ, or else the shorter one: -1, 0 or 1
abbrev pub order_number : Ordering → ℤ
order_number Less = negsuc 0
order_number Equal = pos 0
order_number Greater = pos 1

abbrev pub order_of_texts : ComparedAs → List ℕ → List ℕ → Ordering
order_of_texts x one other = slice_cmp nat_cmp (seen_as x one) (seen_as x other)

-- what is said of two texts
abbrev pub verdict_on : Verdict → ComparedAs → List ℕ → List ℕ → List ℕ
verdict_on verdict.Equality x one other = truth_digit (are_equal x one other)
verdict_on verdict.Order x one other = whole_text (order_number (order_of_texts x one other))

abbrev pub verdict_usage : Verdict → Usage
verdict_usage verdict.Equality = command.StringEqual
verdict_usage verdict.Order = command.StringCompare

abbrev pub verdict_count : {A : Type 0} → Verdict → List ℕ → Answer A
verdict_count v call = wrong_count call (usage_of (verdict_usage v))

-- what is said of two texts behind these options
abbrev pub compared_by : Verdict → List ℕ → List (List ℕ) → List ℕ → List ℕ → RowAnswer
compared_by v call options one other = and_then (comparison_read (verdict_count v call) options compared_whole) (λ x. Gives (verdict_on v x one other))

-- `string equal ?-nocase? ?-length int? string1 string2`, and `compare` likewise. The first word names the subcommand.
abbrev pub row_compare : Verdict → List ℕ → List (List ℕ) → RowAnswer
row_compare v call words =
    let n = length words in
    if nat_lt n 3 || nat_lt 6 n then verdict_count v call
    else compared_by v call (take (n - 3) (drop 1 words)) (slice_index_or words (n - 2) []) (slice_index_or words (n - 1) [])

-- `string match ?-nocase? pattern string`: whether the pattern fits the string as a glob
abbrev pub row_match : List ℕ → List (List ℕ) → RowAnswer
row_match call (sub ∷ pattern ∷ t ∷ []) = Gives (truth_digit (matches false pattern t))
row_match call (sub ∷ o ∷ pattern ∷ t ∷ []) = and_then (nocase_read o) (λ b. Gives (truth_digit (matches b pattern t)))
row_match call _ = wrong_count call (usage_of command.StringMatch)
