-- Rows of the subcommands that write a text anew.
use Rattle.std.specs.Prelude.{ℕ, zero, suc, List, [], ◌∷◌, ◌++◌, reverse}
use Rattle.std.specs.List.{concat}
use Rattle.tclv_model.specs.declared.usages.Usage.TheVariants as usage
use Rattle.tclv_model.specs.Usages.{usage_of}
use Rattle.tclv_model.specs.Rows.{RowAnswer, Gives, and_then, wrong_count}
use Rattle.tclv_model.specs.Values.{whole_of, raised}

-- `string cat ?arg ...?`: the texts, one behind another
abbrev pub row_cat : List ℕ → List (List ℕ) → RowAnswer
row_cat call (sub ∷ texts) = Gives (concat texts)
row_cat call [] = Gives []

-- so many copies of a text, one behind another
abbrev pub copies : ℕ → List ℕ → List ℕ
copies zero text = []
copies (suc n) text = text ++ copies n text

-- A count below 0 counts as 0.
abbrev pub copies_of : List ℕ → List ℕ → RowAnswer
copies_of text count = and_then (whole_of count) (λ z. Gives (copies (raised z) text))

-- `string repeat string count`
abbrev pub row_repeat : List ℕ → List (List ℕ) → RowAnswer
row_repeat call (sub ∷ text ∷ count ∷ []) = copies_of text count
row_repeat call _ = wrong_count call (usage_of usage.StringRepeat)

-- `string reverse string`: the characters from the last to the first
abbrev pub row_reverse : List ℕ → List (List ℕ) → RowAnswer
row_reverse call (sub ∷ text ∷ []) = Gives (reverse text)
row_reverse call _ = wrong_count call (usage_of usage.StringReverse)
