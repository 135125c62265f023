-- Where a number ends: it is the longest front that has the form of a whole number, or that of a floating point number with digits.
use Rattle.std.specs.Prelude.{◌≡◌, ℕ, ◌+◌, ◌<◌, ◌≤◌, Bool, true, false, ◌||◌, ◌==◌, if◌then◌else◌, length, take, drop, Option, Some, None}
use Rattle.tclv_text.specs.Numbers.{unsigned, is_decimal_fraction}
use Rattle.tclv_parse.specs.Runs.{Text}
use Rattle.tclv_exprp.specs.declared.fronts.Class.{Class}
use Rattle.tclv_exprp.specs.declared.fronts.Class.TheVariants as class
use Rattle.tclv_exprp.specs.Fronts.{first, second, run_len, digits_len, sign_len}

-- ---- whole numbers

-- the digits of the base that a letter names behind a 0: x, o, b or d, in either case
abbrev pub named_base : ℕ → Option Class
named_base c = if c == 120 || c == 88 then Some class.Hexadecimal else (if c == 111 || c == 79 then Some class.Octal else (if c == 98 || c == 66 then Some class.Binary else (if c == 100 || c == 68 then Some class.Decimal else None)))

abbrev pub base : ℕ → ℕ → Option Class
base c next = if c == 48 then named_base next else None

abbrev pub based_by : Text → Option Class → Option ℕ
based_by t None = None
based_by t (Some digits) = Some (run_len digits (drop 2 t))

-- where a text begins with 0 and the letter of a base: how many of its digits stand behind the letter
unfoldable pub based_digits : Text → Option ℕ
based_digits t = based_by t (base (first t) (second t))

-- the count, if there is one, is at most this
abbrev pub IsWithin : Option ℕ → ℕ → Type 0
IsWithin None most = Unit {0}
IsWithin (Some n) most = n ≤ most

abbrev pub whole_by : Text → Option ℕ → ℕ
whole_by t None = digits_len t
whole_by t (Some n) = if n == 0 then 1 else 2 + n

-- how long the whole number is that a text begins with, or 0: decimal digits, or digits of a named base
unfoldable pub whole_len : Text → ℕ
whole_len t = whole_by t (based_digits t)

abbrev pub is_none_of : Option ℕ → Bool
is_none_of None = false
is_none_of (Some n) = n == 0

-- behind a 0 the letter of a base stands, and no digit of that base
unfoldable pub lacks_digits : Text → Bool
lacks_digits t = is_none_of (based_digits t)

-- ---- floating point numbers

abbrev pub is_exponent_letter : ℕ → Bool
is_exponent_letter c = c == 101 || c == 69

-- n characters behind k others, where there are any
abbrev pub some_behind : ℕ → ℕ → ℕ
some_behind k n = if n == 0 then 0 else k + n

abbrev pub scale_len : Text → ℕ
scale_len t = let n = sign_len t in some_behind (1 + n) (digits_len (drop n t))

-- how long the exponent is: an e or E, an optional sign and digits
unfoldable pub exponent_len : Text → ℕ
exponent_len t = if is_exponent_letter (first t) then scale_len (drop 1 t) else 0

-- behind n digits and a point: digits or none, but some before or behind, and maybe an exponent
abbrev pub fraction_len : Text → ℕ → ℕ
fraction_len t n = let m = digits_len t in if n + m == 0 then 0 else n + (1 + m) + exponent_len (drop m t)

abbrev pub floating_by : Text → ℕ → ℕ
floating_by t n = if first t == 46 then fraction_len (drop 1 t) n else (if n == 0 then 0 else some_behind n (exponent_len t))

-- How long the floating point number is that a text begins with, or 0: digits with a point before, among or behind them, or with an exponent, or with both.
unfoldable pub floating_len : Text → ℕ
floating_len t = floating_by (drop (digits_len t) t) (digits_len t)

-- ---- a law

abbrev pub is_there : Option ℕ → Bool
is_there None = false
is_there (Some n) = true

-- a whole number without sign
abbrev pub is_whole : Text → Bool
is_whole t = is_there (unsigned t)

-- The longest front of this form has n characters. Where n is 0 there is none.
pub record IsLongestFront (form : Text → Bool) (t : Text) (n : ℕ) : Type 0 where
  pub within : n ≤ length t
  pub front : 0 < n → form (take n t) ≡ true
  pub longest : (k : ℕ) → n < k → k ≤ length t → form (take k t) ≡ false

-- Where a number ends: it is the longest front that is a whole number, or the longest that is a floating point number with digits.
pub record NumbersEnd (t : Text) : Type 0 where
  pub whole : IsLongestFront is_whole t (whole_len t)
  pub floating : IsLongestFront is_decimal_fraction t (floating_len t)

abbrev pub NumbersAreLongest : Type 0
NumbersAreLongest = (t : Text) → NumbersEnd t
