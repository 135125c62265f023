-- Classes of characters and of texts, and the row of `string is`.
use Rattle.std.specs.Prelude.{ℕ, Bool, true, false, not, ◌&&◌, ◌||◌, ◌==◌, nat_lt, if◌then◌else◌, List, [], ◌∷◌, length, Option, Some, None, is_some, Result, Ok, Err, codes}
use Rattle.std.specs.Char.{is_digit}
use Rattle.std.specs.List.{list_all}
use Rattle.std.specs.Result.{is_ok}
use Rattle.std.specs.Str.{bytes_eq}
use Rattle.ucd_category.specs.declared.GeneralCategory.{GeneralCategory}
use Rattle.ucd_category.specs.declared.GeneralCategory.TheVariants.{DecimalNumber, LowercaseLetter, UppercaseLetter}
use Rattle.ucd_category.specs.declared.GeneralCategoryGroup.TheVariants.{Letter}
use Rattle.ucd_category.specs.GeneralCategory.{general_category}
use Rattle.ucd_category.specs.GeneralCategoryGroup.{in_group}
use Rattle.unicode.specs.Binary.{is_white_space}
use Rattle.tclv_text.specs.Elements.{elements}
use Rattle.tclv_text.specs.Globs.{is_empty}
use Rattle.tclv_text.specs.Lists.{ListFlaw}
use Rattle.tclv_text.specs.Numbers.{whole}
use Rattle.tclv_text.specs.Pairs.{pairs}
use Rattle.tclv_text.specs.Truths.{truth}
use Rattle.tclv_model.specs.declared.messages.MessageId.TheVariants.{BadOption}
use Rattle.tclv_model.specs.declared.usages.Usage.TheVariants as command
use Rattle.tclv_model.specs.Usages.{usage_of}
use Rattle.tclv_model.specs.Rows.{Answer, RowAnswer, Gives, and_then, says, wrong_count}
use Rattle.tclv_strings.specs.declared.classes.CharClass.{CharClass}
use Rattle.tclv_strings.specs.declared.classes.CharClass.TheVariants as char
use Rattle.tclv_strings.specs.declared.classes.TextClass.{TextClass}
use Rattle.tclv_strings.specs.declared.classes.TextClass.TheVariants as text
use Rattle.tclv_strings.specs.Comparing.{truth_digit}

-- the class `space`: white space of Unicode, and four characters without a width
abbrev pub is_spacing : ℕ → Bool
is_spacing c = is_white_space c || c == 0x180E || c == 0x200B || c == 0x2060 || c == 0xFEFF

-- letters, digits and cases by the general category
abbrev pub is_letter : ℕ → Bool
is_letter c = in_group Letter (general_category c)

abbrev pub is_decimal : GeneralCategory → Bool
is_decimal DecimalNumber = true
is_decimal _ = false

abbrev pub is_lower : GeneralCategory → Bool
is_lower LowercaseLetter = true
is_lower _ = false

abbrev pub is_upper : GeneralCategory → Bool
is_upper UppercaseLetter = true
is_upper _ = false

-- the character is of the class
abbrev pub has_class : CharClass → ℕ → Bool
has_class char.Alnum c = is_letter c || is_decimal (general_category c)
has_class char.Alpha c = is_letter c
has_class char.Ascii c = nat_lt c 128
has_class char.Digit c = is_decimal (general_category c)
has_class char.Lower c = is_lower (general_category c)
has_class char.Space c = is_spacing c
has_class char.Upper c = is_upper (general_category c)
has_class char.Xdigit c = is_digit c 16

-- the text is the truth value
abbrev pub is_value : Bool → Option Bool → Bool
is_value b None = false
is_value b (Some x) = if b then x else not x

-- the text is of the class; a class of characters has texts of at least one, each of which is of the class
abbrev pub is_of : TextClass → List ℕ → Bool
is_of text.Whole t = is_ok (whole t)
is_of text.Boolean t = is_some (truth t)
is_of text.True t = is_value true (truth t)
is_of text.False t = is_value false (truth t)
is_of text.List t = is_ok (elements t)
is_of text.Dict t = is_ok (pairs t)
is_of (text.Characters k) t = not (is_empty t) && list_all (has_class k) t

-- the class that a word names
abbrev pub class_named : List ℕ → Option TextClass
class_named word =
    if bytes_eq word (codes "alnum") then Some (text.Characters char.Alnum) else (
    if bytes_eq word (codes "alpha") then Some (text.Characters char.Alpha) else (
    if bytes_eq word (codes "ascii") then Some (text.Characters char.Ascii) else (
    if bytes_eq word (codes "boolean") then Some text.Boolean else (
    if bytes_eq word (codes "dict") then Some text.Dict else (
    if bytes_eq word (codes "digit") then Some (text.Characters char.Digit) else (
    if bytes_eq word (codes "entier") then Some text.Whole else (
    if bytes_eq word (codes "false") then Some text.False else (
    if bytes_eq word (codes "integer") then Some text.Whole else (
    if bytes_eq word (codes "list") then Some text.List else (
    if bytes_eq word (codes "lower") then Some (text.Characters char.Lower) else (
    if bytes_eq word (codes "space") then Some (text.Characters char.Space) else (
    if bytes_eq word (codes "true") then Some text.True else (
    if bytes_eq word (codes "upper") then Some (text.Characters char.Upper) else (
    if bytes_eq word (codes "wideinteger") then Some text.Whole else (
    if bytes_eq word (codes "xdigit") then Some (text.Characters char.Xdigit) else None)))))))))))))))

abbrev pub known_class : List ℕ → Option TextClass → Answer TextClass
known_class word None = says BadOption word []
known_class word (Some k) = Gives k

-- the word must name a class
abbrev pub class_read : List ℕ → Answer TextClass
class_read word = known_class word (class_named word)

-- the word must be the option `-strict`
abbrev pub strict_read : List ℕ → Answer Bool
strict_read o = if bytes_eq o (codes "-strict") then Gives true else says BadOption o []

-- without `-strict` the empty text is of each class
abbrev pub counts_as : Bool → TextClass → List ℕ → Bool
counts_as strict k t = (not strict && is_empty t) || is_of k t

abbrev pub is_answer : Bool → List ℕ → List ℕ → RowAnswer
is_answer strict word t = and_then (class_read word) (λ k. Gives (truth_digit (counts_as strict k t)))

-- `string is class ?-strict? string`. The first word names the subcommand. The option is read before the class.
abbrev pub row_is : List ℕ → List (List ℕ) → RowAnswer
row_is call (sub ∷ word ∷ t ∷ []) = is_answer false word t
row_is call (sub ∷ word ∷ o ∷ t ∷ []) = and_then (strict_read o) (λ b. is_answer b word t)
row_is call _ = wrong_count call (usage_of command.StringIs)

-- how many elements the list has that a text is, if it is one
abbrev pub list_count : Result (List (List ℕ)) ListFlaw → Option ℕ
list_count (Ok ts) = Some (length ts)
list_count (Err f) = None
