-- Rows of the subcommands of `string` that take characters off the ends of a text: `trim`, `trimleft` and `trimright`.
use Rattle.std.specs.Prelude.{ℕ, ◌-◌, Bool, ◌==◌, ◌||◌, List, [], ◌∷◌, length, take, drop, Option, Some, None}
use Rattle.std.specs.List.{list_any, prefix_len, suffix_len}
use Rattle.tclv_model.specs.declared.usages.Usage.{Usage}
use Rattle.tclv_model.specs.declared.usages.Usage.TheVariants as command
use Rattle.tclv_model.specs.Usages.{usage_of}
use Rattle.tclv_model.specs.Rows.{RowAnswer, Gives, wrong_count}
use Rattle.tclv_strings.specs.declared.trimming.Ends.{Ends}
use Rattle.tclv_strings.specs.declared.trimming.Ends.TheVariants.{Both, Left, Right}
use Rattle.tclv_strings.specs.Classes.{is_spacing}

-- the character is one of the text's
abbrev pub is_one_in : List ℕ → ℕ → Bool
is_one_in cs c = list_any (λ x. c == x) cs

-- the character goes: it is one of those that are named, or by default U+0000 or one of the class `space`
abbrev pub is_trimmed : Option (List ℕ) → ℕ → Bool
is_trimmed None c = c == 0 || is_spacing c
is_trimmed (Some cs) c = is_one_in cs c

-- the text without such characters at its left end, and at its right end
abbrev pub trimmed_left : Option (List ℕ) → List ℕ → List ℕ
trimmed_left cs t = drop (prefix_len (is_trimmed cs) t) t

abbrev pub trimmed_right : Option (List ℕ) → List ℕ → List ℕ
trimmed_right cs t = take (length t - suffix_len (is_trimmed cs) t) t

abbrev pub trimmed_at : Ends → Option (List ℕ) → List ℕ → List ℕ
trimmed_at Both cs t = trimmed_right cs (trimmed_left cs t)
trimmed_at Left cs t = trimmed_left cs t
trimmed_at Right cs t = trimmed_right cs t

abbrev pub trim_usage : Ends → Usage
trim_usage Both = command.StringTrim
trim_usage Left = command.StringTrimleft
trim_usage Right = command.StringTrimright

-- `string trim string ?chars?`, and `trimleft` and `trimright` likewise. The first word names the subcommand.
abbrev pub row_trim : Ends → List ℕ → List (List ℕ) → RowAnswer
row_trim ends call (sub ∷ t ∷ []) = Gives (trimmed_at ends None t)
row_trim ends call (sub ∷ t ∷ cs ∷ []) = Gives (trimmed_at ends (Some cs) t)
row_trim ends call _ = wrong_count call (usage_of (trim_usage ends))
