-- Rows of the commands that make lists of words.
use Rattle.std.specs.Prelude.{ℕ, zero, suc, List, [], ◌∷◌, ◌++◌, ℤ, pos, negsuc}
use Rattle.tclv_text.specs.Quotes.{list_text}
use Rattle.tclv_model.specs.declared.messages.MessageId.TheVariants.{BadCount}
use Rattle.tclv_model.specs.declared.usages.Usage.TheVariants as command
use Rattle.tclv_model.specs.Usages.{usage_of}
use Rattle.tclv_model.specs.Rows.{Answer, RowAnswer, Gives, and_then, says, wrong_count}
use Rattle.tclv_model.specs.Values.{whole_of}

-- `list ?arg ...?`: the list of its words
abbrev pub row_list : List ℕ → List (List ℕ) → RowAnswer
row_list call words = Gives (list_text words)

-- so many copies, one behind another
abbrev pub times : ℕ → List (List ℕ) → List (List ℕ)
times zero words = []
times (suc n) words = words ++ times n words

-- a count, which must not be below 0
abbrev pub count_read : List ℕ → ℤ → Answer ℕ
count_read count (pos n) = Gives n
count_read count (negsuc n) = says BadCount count []

abbrev pub count_of : List ℕ → Answer ℕ
count_of count = and_then (whole_of count) (λ z. count_read count z)

abbrev pub repeated_of : List ℕ → List (List ℕ) → RowAnswer
repeated_of count words = and_then (count_of count) (λ n. Gives (list_text (times n words)))

-- `lrepeat count ?value ...?`: the values, as often as the count says
abbrev pub row_lrepeat : List ℕ → List (List ℕ) → RowAnswer
row_lrepeat call (count ∷ words) = repeated_of count words
row_lrepeat call _ = wrong_count call (usage_of command.Lrepeat)
