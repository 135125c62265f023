-- Rows at wrong numbers of words.
use Rattle.std.proofs.Common.{◌≡◌, ◌≢◌, ℕ, List, [], ◌∷◌, length, refl}
use Rattle.tclv_model.specs.declared.usages.Usage.TheVariants as usage
use Rattle.tclv_model.specs.Usages.{usage_of}
use Rattle.tclv_model.specs.Rows.{wrong_count}
use Rattle.tclv_strings.specs.Measuring.{row_length}
use Rattle.tclv_strings.specs.Reading.{row_index, row_range}
use Rattle.tclv_strings.specs.Changing.{row_replace, row_insert}
use Rattle.tclv_strings.specs.Making.{row_repeat, row_reverse}
use Rattle.tclv_strings.specs.Finding.{row_first, row_last}

pub length_count : (call : List ℕ) (words : List (List ℕ)) → length words ≢ 2 → row_length call words ≡ wrong_count call (usage_of usage.StringLength)
length_count call [] h = refl
length_count call (a ∷ []) h = refl
length_count call (a ∷ b ∷ []) h = absurd (h refl)
length_count call (a ∷ b ∷ c ∷ ws) h = refl

pub reverse_count : (call : List ℕ) (words : List (List ℕ)) → length words ≢ 2 → row_reverse call words ≡ wrong_count call (usage_of usage.StringReverse)
reverse_count call [] h = refl
reverse_count call (a ∷ []) h = refl
reverse_count call (a ∷ b ∷ []) h = absurd (h refl)
reverse_count call (a ∷ b ∷ c ∷ ws) h = refl

pub index_count : (call : List ℕ) (words : List (List ℕ)) → length words ≢ 3 → row_index call words ≡ wrong_count call (usage_of usage.StringIndex)
index_count call [] h = refl
index_count call (a ∷ []) h = refl
index_count call (a ∷ b ∷ []) h = refl
index_count call (a ∷ b ∷ c ∷ []) h = absurd (h refl)
index_count call (a ∷ b ∷ c ∷ d ∷ ws) h = refl

pub repeat_count : (call : List ℕ) (words : List (List ℕ)) → length words ≢ 3 → row_repeat call words ≡ wrong_count call (usage_of usage.StringRepeat)
repeat_count call [] h = refl
repeat_count call (a ∷ []) h = refl
repeat_count call (a ∷ b ∷ []) h = refl
repeat_count call (a ∷ b ∷ c ∷ []) h = absurd (h refl)
repeat_count call (a ∷ b ∷ c ∷ d ∷ ws) h = refl

pub range_count : (call : List ℕ) (words : List (List ℕ)) → length words ≢ 4 → row_range call words ≡ wrong_count call (usage_of usage.StringRange)
range_count call [] h = refl
range_count call (a ∷ []) h = refl
range_count call (a ∷ b ∷ []) h = refl
range_count call (a ∷ b ∷ c ∷ []) h = refl
range_count call (a ∷ b ∷ c ∷ d ∷ []) h = absurd (h refl)
range_count call (a ∷ b ∷ c ∷ d ∷ e ∷ ws) h = refl

pub insert_count : (call : List ℕ) (words : List (List ℕ)) → length words ≢ 4 → row_insert call words ≡ wrong_count call (usage_of usage.StringInsert)
insert_count call [] h = refl
insert_count call (a ∷ []) h = refl
insert_count call (a ∷ b ∷ []) h = refl
insert_count call (a ∷ b ∷ c ∷ []) h = refl
insert_count call (a ∷ b ∷ c ∷ d ∷ []) h = absurd (h refl)
insert_count call (a ∷ b ∷ c ∷ d ∷ e ∷ ws) h = refl

pub replace_count : (call : List ℕ) (words : List (List ℕ)) → length words ≢ 4 → length words ≢ 5 → row_replace call words ≡ wrong_count call (usage_of usage.StringReplace)
replace_count call [] h k = refl
replace_count call (a ∷ []) h k = refl
replace_count call (a ∷ b ∷ []) h k = refl
replace_count call (a ∷ b ∷ c ∷ []) h k = refl
replace_count call (a ∷ b ∷ c ∷ d ∷ []) h k = absurd (h refl)
replace_count call (a ∷ b ∷ c ∷ d ∷ e ∷ []) h k = absurd (k refl)
replace_count call (a ∷ b ∷ c ∷ d ∷ e ∷ f ∷ ws) h k = refl

pub first_count : (call : List ℕ) (words : List (List ℕ)) → length words ≢ 3 → length words ≢ 4 → row_first call words ≡ wrong_count call (usage_of usage.StringFirst)
first_count call [] h k = refl
first_count call (a ∷ []) h k = refl
first_count call (a ∷ b ∷ []) h k = refl
first_count call (a ∷ b ∷ c ∷ []) h k = absurd (h refl)
first_count call (a ∷ b ∷ c ∷ d ∷ []) h k = absurd (k refl)
first_count call (a ∷ b ∷ c ∷ d ∷ e ∷ ws) h k = refl

pub last_count : (call : List ℕ) (words : List (List ℕ)) → length words ≢ 3 → length words ≢ 4 → row_last call words ≡ wrong_count call (usage_of usage.StringLast)
last_count call [] h k = refl
last_count call (a ∷ []) h k = refl
last_count call (a ∷ b ∷ []) h k = refl
last_count call (a ∷ b ∷ c ∷ []) h k = absurd (h refl)
last_count call (a ∷ b ∷ c ∷ d ∷ []) h k = absurd (k refl)
last_count call (a ∷ b ∷ c ∷ d ∷ e ∷ ws) h k = refl
