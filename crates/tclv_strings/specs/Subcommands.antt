-- The row of `string`, and which subcommand a word names.
use Rattle.std.specs.Prelude.{ℕ, if◌then◌else◌, List, [], ◌∷◌, codes, Option, Some, None}
use Rattle.std.specs.Str.{bytes_eq}
use Rattle.tclv_model.specs.declared.messages.MessageId.TheVariants.{UnknownSubcommand}
use Rattle.tclv_model.specs.declared.usages.Usage.TheVariants as usage
use Rattle.tclv_model.specs.Usages.{usage_of}
use Rattle.tclv_model.specs.Rows.{RowAnswer, says, wrong_count}
use Rattle.tclv_strings.specs.declared.subcommands.StringCommand.{StringCommand}
use Rattle.tclv_strings.specs.declared.subcommands.StringCommand.TheVariants as string
use Rattle.tclv_strings.specs.Measuring.{row_length}
use Rattle.tclv_strings.specs.Reading.{row_index, row_range}
use Rattle.tclv_strings.specs.Changing.{row_replace, row_insert}
use Rattle.tclv_strings.specs.Making.{row_cat, row_repeat, row_reverse}
use Rattle.tclv_strings.specs.Finding.{row_first, row_last}
use Rattle.tclv_strings.specs.declared.comparing.Verdict.TheVariants as verdict
use Rattle.tclv_strings.specs.declared.folding.Case.TheVariants.{Lower, Upper}
use Rattle.tclv_strings.specs.declared.trimming.Ends.TheVariants.{Both, Left, Right}
use Rattle.tclv_strings.specs.Comparing.{row_compare, row_match}
use Rattle.tclv_strings.specs.Mapping.{row_map}
use Rattle.tclv_strings.specs.Folding.{row_case}
use Rattle.tclv_strings.specs.Trimming.{row_trim}
use Rattle.tclv_strings.specs.Classes.{row_is}

-- the subcommand that a word names
abbrev pub string_command : List ℕ → Option StringCommand
string_command word =
    if bytes_eq word (codes "cat") then Some string.Cat else (
    if bytes_eq word (codes "compare") then Some string.Compare else (
    if bytes_eq word (codes "equal") then Some string.Equal else (
    if bytes_eq word (codes "first") then Some string.First else (
    if bytes_eq word (codes "index") then Some string.Index else (
    if bytes_eq word (codes "insert") then Some string.Insert else (
    if bytes_eq word (codes "is") then Some string.Is else (
    if bytes_eq word (codes "last") then Some string.Last else (
    if bytes_eq word (codes "length") then Some string.Length else (
    if bytes_eq word (codes "map") then Some string.Map else (
    if bytes_eq word (codes "match") then Some string.Match else (
    if bytes_eq word (codes "range") then Some string.Range else (
    if bytes_eq word (codes "repeat") then Some string.Repeat else (
    if bytes_eq word (codes "replace") then Some string.Replace else (
    if bytes_eq word (codes "reverse") then Some string.Reverse else (
    if bytes_eq word (codes "tolower") then Some string.Tolower else (
    if bytes_eq word (codes "toupper") then Some string.Toupper else (
    if bytes_eq word (codes "trim") then Some string.Trim else (
    if bytes_eq word (codes "trimleft") then Some string.Trimleft else (
    if bytes_eq word (codes "trimright") then Some string.Trimright else None)))))))))))))))))))

-- the row of each subcommand, whose first word is its own
abbrev pub string_row : StringCommand → List ℕ → List (List ℕ) → RowAnswer
string_row string.Cat = row_cat
string_row string.Compare = row_compare verdict.Order
string_row string.Equal = row_compare verdict.Equality
string_row string.First = row_first
string_row string.Index = row_index
string_row string.Insert = row_insert
string_row string.Is = row_is
string_row string.Last = row_last
string_row string.Length = row_length
string_row string.Map = row_map
string_row string.Match = row_match
string_row string.Range = row_range
string_row string.Repeat = row_repeat
string_row string.Replace = row_replace
string_row string.Reverse = row_reverse
string_row string.Tolower = row_case Lower
string_row string.Toupper = row_case Upper
string_row string.Trim = row_trim Both
string_row string.Trimleft = row_trim Left
string_row string.Trimright = row_trim Right

abbrev pub string_by : Option StringCommand → List ℕ → List ℕ → List (List ℕ) → RowAnswer
string_by None call sub words = says UnknownSubcommand sub []
string_by (Some c) call sub words = string_row c call words

-- `string subcommand ?arg ...?`
abbrev pub row_string : List ℕ → List (List ℕ) → RowAnswer
row_string call (sub ∷ words) = string_by (string_command sub) call sub (sub ∷ words)
row_string call [] = wrong_count call (usage_of usage.String)
