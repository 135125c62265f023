-- What a text is as a whole number, and the decimal text of one.
use Rattle.std.specs.Prelude.{ℕ, ◌+◌, ◌-◌, ◌*◌, ◌^◌, Bool, true, false, ◌&&◌, ◌||◌, ◌==◌, nat_lt, nat_le, if◌then◌else◌, List, [], ◌∷◌, length, take, drop, Option, Some, None, Result, Ok, Err, ℤ, pos, neg_ℤ, nat_eq, min, codes}
use Rattle.std.specs.Option.{option_or, option_map}
use Rattle.std.specs.List.{prefix_len, suffix_len}
use Rattle.std.specs.Char.{digit_value, is_digit, is_ascii_digit, is_ascii_hexdigit}
use Rattle.std.specs.Str.{str_eq_ignore_ascii_case}
use Rattle.std.specs.Fmt.{signed_decimal}
use Rattle.tclv_text.specs.declared.numbers.WholeFault.{WholeFault}
use Rattle.tclv_text.specs.declared.numbers.WholeFault.TheVariants.{NotWhole, TooLarge, FloatForm}
use Rattle.tclv_text.specs.Characters.{is_space}

-- the text without the white space at its end
abbrev pub trim_end : List ℕ → List ℕ
trim_end u = take (length u - suffix_len is_space u) u

-- the text without the white space at its ends
unfoldable pub trim : List ℕ → List ℕ
trim t = trim_end (drop (prefix_len is_space t) t)

-- without one sign in front
abbrev pub without_sign : List ℕ → List ℕ
without_sign [] = []
without_sign (c ∷ cs) = if (c == 43) || (c == 45) then cs else c ∷ cs

abbrev pub is_minus : List ℕ → Bool
is_minus [] = false
is_minus (c ∷ cs) = c == 45

-- the number that the digits go on to, behind those of n
abbrev pub digits_after : ℕ → ℕ → List ℕ → Option ℕ
digits_after radix n [] = Some n
digits_after radix n (c ∷ cs) = if is_digit c radix then digits_after radix (n * radix + digit_value c) cs else None

-- one digit or more, as a number
abbrev pub number : ℕ → List ℕ → Option ℕ
number radix [] = None
number radix (c ∷ cs) = digits_after radix 0 (c ∷ cs)

-- the base that a letter names behind a 0: x, o, b or d, in either case
abbrev pub radix_of : ℕ → Option ℕ
radix_of c = if (c == 120) || (c == 88) then Some 16 else (if (c == 111) || (c == 79) then Some 8 else (if (c == 98) || (c == 66) then Some 2 else (if (c == 100) || (c == 68) then Some 10 else None)))

abbrev pub number_in : Option ℕ → List ℕ → Option ℕ
number_in None ds = None
number_in (Some radix) ds = number radix ds

-- digits behind 0x, 0o, 0b or 0d
abbrev pub based_number : List ℕ → Option ℕ
based_number [] = None
based_number (z ∷ []) = None
based_number (z ∷ m ∷ ds) = if z == 48 then number_in (radix_of m) ds else None

-- decimal digits, or those of a named base
unfoldable pub unsigned : List ℕ → Option ℕ
unsigned ds = option_or (number 10 ds) (based_number ds)

-- a number that is kept up to the greatest one of 64 bits
abbrev pub capped : Option ℕ → Option ℕ
capped o = option_map (min (2 ^ 64 - 1)) o

-- one decimal digit or more, and nothing else
abbrev pub is_digits : List ℕ → Bool
is_digits ds = nat_lt 0 (length ds) && nat_eq (prefix_len is_ascii_digit ds) (length ds)

-- an e or E, an optional sign and digits
abbrev pub is_exponent : List ℕ → Bool
is_exponent [] = false
is_exponent (e ∷ cs) = ((e == 101) || (e == 69)) && is_digits (without_sign cs)

-- What stands behind n digits makes a floating form of them: a point with digits behind it or none (but some before or behind), and
-- maybe an exponent; or an exponent alone.
abbrev pub is_fraction_or_exponent : ℕ → List ℕ → Bool
is_fraction_or_exponent n [] = false
is_fraction_or_exponent n (c ∷ cs) =
    let more = prefix_len is_ascii_digit cs in
    if c == 46 then nat_lt 0 (n + more) && ((more == length cs) || is_exponent (drop more cs)) else (nat_lt 0 n && is_exponent (c ∷ cs))

-- digits with one point before, among or behind them, or with an exponent behind them, or with both
unfoldable pub is_decimal_fraction : List ℕ → Bool
is_decimal_fraction d = let n = prefix_len is_ascii_digit d in is_fraction_or_exponent n (drop n d)

abbrev pub is_closing : List ℕ → Bool
is_closing [] = false
is_closing (c ∷ []) = c == 41
is_closing (c ∷ d ∷ cs) = false

-- hexadecimal digits, one or more, and `)`
abbrev pub is_closed_digits : List ℕ → Bool
is_closed_digits t = let n = prefix_len is_ascii_hexdigit t in nat_lt 0 n && is_closing (drop n t)

-- `nan(` in any case, hexadecimal digits and `)`
abbrev pub is_nan_with_digits : List ℕ → Bool
is_nan_with_digits d = str_eq_ignore_ascii_case (take 4 d) (codes "nan(") && is_closed_digits (drop 4 d)

-- `inf`, `infinity` or `nan` in any case, or a nan with digits
unfoldable pub is_named_float : List ℕ → Bool
is_named_float d =
    str_eq_ignore_ascii_case d (codes "inf") || (str_eq_ignore_ascii_case d (codes "infinity") || (str_eq_ignore_ascii_case d (codes "nan") || is_nan_with_digits d))

-- the floating forms, behind white space and sign
abbrev pub is_float_form : List ℕ → Bool
is_float_form d = is_decimal_fraction d || is_named_float d

-- a number of 64 bits, or why there is none
abbrev pub in_range : Bool → Bool → Option ℕ → Result ℤ WholeFault
in_range float minus None = Err (if float then FloatForm else NotWhole)
in_range float true (Some n) = if nat_le n (2 ^ 63) then Ok (neg_ℤ (pos n)) else Err TooLarge
in_range float false (Some n) = if nat_lt n (2 ^ 63) then Ok (pos n) else Err TooLarge

-- The whole number that the text is: with white space around it and an optional sign, decimal digits, or digits of a named base.
unfoldable pub whole : List ℕ → Result ℤ WholeFault
whole t = let body = trim t in let d = without_sign body in in_range (is_float_form d) (is_minus body) (unsigned d)

-- the decimal text of a number
abbrev pub whole_text : ℤ → List ℕ
whole_text z = signed_decimal z
