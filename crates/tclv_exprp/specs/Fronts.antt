-- What a text begins with, as far as the readers of expressions look at it.
use Rattle.std.specs.Prelude.{ℕ, Bool, true, false, ◌||◌, ◌==◌, if◌then◌else◌, [], ◌∷◌, drop}
use Rattle.std.specs.List.{prefix_len}
use Rattle.std.specs.Char.{is_ascii_digit, is_ascii_hexdigit}
use Rattle.std.specs.Int.{is_in_range}
use Rattle.tclv_text.specs.Cursors.{sign, is_name}
use Rattle.tclv_text.specs.declared.cursors.Sign.{Sign}
use Rattle.tclv_text.specs.declared.cursors.Sign.TheVariants as s
use Rattle.tclv_parse.specs.Runs.{Text}
use Rattle.tclv_exprp.specs.declared.fronts.Class.{Class}
use Rattle.tclv_exprp.specs.declared.fronts.Class.TheVariants as class

-- the first character, or 0 at the end
unfoldable pub first : Text → ℕ
first [] = 0
first (c ∷ t) = c

abbrev pub second : Text → ℕ
second t = first (drop 1 t)

abbrev pub third : Text → ℕ
third t = first (drop 1 (drop 1 t))

-- white space of lists, and the backslash before a newline
abbrev pub is_blank : Sign → Bool
is_blank s.Blank = true
is_blank s.Newline = true
is_blank s.Fold = true
is_blank _ = false

-- the text behind the white space in front
unfoldable pub blanks : Text → Text
blanks [] = []
blanks (c ∷ t) = if is_blank (sign (c ∷ t)) then blanks t else c ∷ t

-- a character of names, or a digit of a base
abbrev pub is_in : Class → ℕ → Bool
is_in class.Name c = is_name c
is_in class.Binary c = is_in_range 48 49 c
is_in class.Octal c = is_in_range 48 55 c
is_in class.Decimal c = is_ascii_digit c
is_in class.Hexadecimal c = is_ascii_hexdigit c

-- how many characters of this class a text begins with
unfoldable pub run_len : Class → Text → ℕ
run_len k t = prefix_len (is_in k) t

abbrev pub digits_len : Text → ℕ
digits_len t = run_len class.Decimal t

abbrev pub is_sign : ℕ → Bool
is_sign c = c == 43 || c == 45

-- how many signs stand before a number: one or none
unfoldable pub sign_len : Text → ℕ
sign_len t = if is_sign (first t) then 1 else 0
