-- Rows of the subcommands that tell of a text as a whole.
use Rattle.std.specs.Prelude.{ℕ, List, [], ◌∷◌, length, pos}
use Rattle.tclv_text.specs.Numbers.{whole_text}
use Rattle.tclv_model.specs.declared.usages.Usage.TheVariants as usage
use Rattle.tclv_model.specs.Usages.{usage_of}
use Rattle.tclv_model.specs.Rows.{RowAnswer, Gives, wrong_count}

-- `string length string`: the number of its characters
abbrev pub text_length : List ℕ → RowAnswer
text_length text = Gives (whole_text (pos (length text)))

abbrev pub row_length : List ℕ → List (List ℕ) → RowAnswer
row_length call (sub ∷ text ∷ []) = text_length text
row_length call _ = wrong_count call (usage_of usage.StringLength)
