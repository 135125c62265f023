-- Rows of the subcommands of `string` that change the case of ASCII letters: `tolower` and `toupper`.
use Rattle.std.specs.Prelude.{ℕ, List, [], ◌∷◌, map}
use Rattle.std.specs.Char.{to_ascii_lowercase, to_ascii_uppercase}
use Rattle.tclv_model.specs.declared.usages.Usage.{Usage}
use Rattle.tclv_model.specs.declared.usages.Usage.TheVariants as command
use Rattle.tclv_model.specs.Usages.{usage_of}
use Rattle.tclv_model.specs.Rows.{RowAnswer, Gives, wrong_count}
use Rattle.tclv_strings.specs.declared.folding.Case.{Case}
use Rattle.tclv_strings.specs.declared.folding.Case.TheVariants.{Lower, Upper}

-- the text with its ASCII letters in this case; all other characters stay
abbrev pub in_case : Case → List ℕ → List ℕ
in_case Lower t = map to_ascii_lowercase t
in_case Upper t = map to_ascii_uppercase t

abbrev pub case_usage : Case → Usage
case_usage Lower = command.StringTolower
case_usage Upper = command.StringToupper

-- `string tolower string`, and `toupper` likewise. The first word names the subcommand.
abbrev pub row_case : Case → List ℕ → List (List ℕ) → RowAnswer
row_case case call (sub ∷ t ∷ []) = Gives (in_case case t)
row_case case call _ = wrong_count call (usage_of (case_usage case))
