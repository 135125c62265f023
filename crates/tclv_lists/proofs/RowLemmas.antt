-- Rows at wrong numbers of words.
use Rattle.std.proofs.Common.{◌≡◌, ◌≢◌, ℕ, ◌<◌, List, [], ◌∷◌, length, refl, arith}
use Rattle.tclv_model.specs.declared.usages.Usage.TheVariants as command
use Rattle.tclv_model.specs.Usages.{usage_of}
use Rattle.tclv_model.specs.Rows.{wrong_count}
use Rattle.tclv_lists.specs.Reading.{row_llength, row_lrange}
use Rattle.tclv_lists.specs.Joining.{row_join, row_split}
use Rattle.tclv_lists.specs.Changing.{row_lreverse, row_lreplace, row_linsert}

pub llength_count : (call : List ℕ) (words : List (List ℕ)) → length words ≢ 1 → row_llength call words ≡ wrong_count call (usage_of command.Llength)
llength_count call [] h = refl
llength_count call (a ∷ []) h = absurd (h refl)
llength_count call (a ∷ b ∷ ws) h = refl

pub lrange_count : (call : List ℕ) (words : List (List ℕ)) → length words ≢ 3 → row_lrange call words ≡ wrong_count call (usage_of command.Lrange)
lrange_count call [] h = refl
lrange_count call (a ∷ []) h = refl
lrange_count call (a ∷ b ∷ []) h = refl
lrange_count call (a ∷ b ∷ c ∷ []) h = absurd (h refl)
lrange_count call (a ∷ b ∷ c ∷ d ∷ ws) h = refl

pub lreverse_count : (call : List ℕ) (words : List (List ℕ)) → length words ≢ 1 → row_lreverse call words ≡ wrong_count call (usage_of command.Lreverse)
lreverse_count call [] h = refl
lreverse_count call (a ∷ []) h = absurd (h refl)
lreverse_count call (a ∷ b ∷ ws) h = refl

pub lreplace_count : (call : List ℕ) (words : List (List ℕ)) → length words < 3 → row_lreplace call words ≡ wrong_count call (usage_of command.Lreplace)
lreplace_count call [] h = refl
lreplace_count call (a ∷ []) h = refl
lreplace_count call (a ∷ b ∷ []) h = refl
lreplace_count call (a ∷ b ∷ c ∷ ws) h = absurd (omega arith)

pub linsert_count : (call : List ℕ) (words : List (List ℕ)) → length words < 2 → row_linsert call words ≡ wrong_count call (usage_of command.Linsert)
linsert_count call [] h = refl
linsert_count call (a ∷ []) h = refl
linsert_count call (a ∷ b ∷ ws) h = absurd (omega arith)

pub join_count : (call : List ℕ) (words : List (List ℕ)) → length words ≢ 1 → length words ≢ 2 → row_join call words ≡ wrong_count call (usage_of command.Join)
join_count call [] h k = refl
join_count call (a ∷ []) h k = absurd (h refl)
join_count call (a ∷ b ∷ []) h k = absurd (k refl)
join_count call (a ∷ b ∷ c ∷ ws) h k = refl

pub split_count : (call : List ℕ) (words : List (List ℕ)) → length words ≢ 1 → length words ≢ 2 → row_split call words ≡ wrong_count call (usage_of command.Split)
split_count call [] h k = refl
split_count call (a ∷ []) h k = absurd (h refl)
split_count call (a ∷ b ∷ []) h k = absurd (k refl)
split_count call (a ∷ b ∷ c ∷ ws) h k = refl
