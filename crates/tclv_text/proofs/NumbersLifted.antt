-- A text with a character that is not ASCII is no number, whichever way it is given.
use Rattle.std.proofs.Common.{◌≡◌, ℕ, zero, suc, ◌+◌, ◌*◌, ◌<◌, ◌≤◌, Bool, true, false, cond, List, [], ◌∷◌, Option, Some, None, Err, length, get_or, take, drop, sym, ap, ◌∙◌, subst, refl, arith, ltb, eqb, ◌&&◌, ◌||◌}
use Rattle.std.proofs.lemmas.Bool.{cases_lt, cond-false, ne_eqb, and_left, and_right}
use Rattle.std.proofs.lemmas.Bool.Decides.{nat_tests}
use Rattle.std.specs.Option.{option_or, IfSome}
use Rattle.std.specs.List.{prefix_len}
use Rattle.std.specs.Str.{chars, str_eq_ignore_ascii_case}
use Rattle.std.specs.Char.{digit_value, is_digit, is_ascii_digit, is_ascii_hexdigit}
use Rattle.std.specs.Prelude.{codes}
use mathlib.Core.Logic.{⊎_elim}
use Rattle.tclv_text.specs.Texts.{IsText}
use Rattle.tclv_text.specs.Characters.{is_space}
use Rattle.tclv_text.specs.Numbers.{trim, digits_after, number, radix_of, number_in, based_number, unsigned, without_sign, is_minus, is_exponent, is_fraction_or_exponent, is_decimal_fraction, is_closing, is_closed_digits, is_nan_with_digits, is_named_float, is_float_form, in_range, whole}
use Rattle.tclv_text.specs.declared.numbers.WholeFault.TheVariants.{NotWhole}
use Rattle.tclv_text.proofs.Lifted.{high_no_space}
use Rattle.tclv_text.proofs.AsciiLemmas.{HasHigh, lifted, front_ends, drop_high, take_high, back_ends, tail_high, no_word}

trim_high : (t : List ℕ) → HasHigh t → HasHigh (trim t)
unfolding trim
trim_high t h =
    let u = drop_high (prefix_len is_space t) t h (front_ends is_space high_no_space t h) in
    take_high _ _ u (back_ends is_space high_no_space _ u)

no_sign : (c : ℕ) → 128 ≤ c → (eqb c 43 || eqb c 45) ≡ false
no_sign c g = grind (arith, nat_tests)

sign_high : (b : List ℕ) → HasHigh b → HasHigh (without_sign b)
sign_high [] h = h
sign_high (c ∷ cs) h =
    ⊎_elim
    (λ (l : c < 128). elim (eqb c 43 || eqb c 45) as (λ b. HasHigh (cond b cs (c ∷ cs))) [ true ↦ tail_high c cs l h | false ↦ h ])
    (λ (g : 128 ≤ c). subst (λ b. HasHigh (cond b cs (c ∷ cs))) (sym (no_sign c g)) h)
    (cases_lt c 128)

no_digit : (c r : ℕ) → r ≤ 36 → 128 ≤ c → is_digit c r ≡ false
no_digit c r l g = grind (arith, nat_tests)

digits_high : (r n : ℕ) (cs : List ℕ) (i : ℕ) → r ≤ 36 → i < length cs → 128 ≤ get_or cs i 0 → digits_after r n cs ≡ None
digits_high r n [] i l h g = absurd (omega arith)
digits_high r n (c ∷ cs) zero l h g = cond-false _ _ _ (no_digit c r l g)
digits_high r n (c ∷ cs) (suc i) l h g = elim (is_digit c r) as (λ b. cond b (digits_after r (n * r + digit_value c) cs) None ≡ None) [ true ↦ digits_high r (n * r + digit_value c) cs i l (omega arith) g | false ↦ refl ]

number_high : (r : ℕ) (cs : List ℕ) → r ≤ 36 → HasHigh cs → number r cs ≡ None
number_high r [] l h = refl
number_high r (c ∷ cs) l h = digits_high r 0 (c ∷ cs) h.at l h.inside h.high

in_high : (o : Option ℕ) (cs : List ℕ) → IfSome o (λ r. r ≤ 36) → HasHigh cs → number_in o cs ≡ None
in_high None cs l h = refl
in_high (Some r) cs l h = number_high r cs l h

pub radix_small : (m : ℕ) → IfSome (radix_of m) (λ r. r ≤ 36)
radix_small m =
    elim (eqb m 120 || eqb m 88) as (λ b. IfSome (cond b (Some 16) (cond (eqb m 111 || eqb m 79) (Some 8) (cond (eqb m 98 || eqb m 66) (Some 2) (cond (eqb m 100 || eqb m 68) (Some 10) None)))) (λ r. r ≤ 36)) [
      | true ↦ omega arith
      | false ↦ elim (eqb m 111 || eqb m 79) as (λ b. IfSome (cond b (Some 8) (cond (eqb m 98 || eqb m 66) (Some 2) (cond (eqb m 100 || eqb m 68) (Some 10) None))) (λ r. r ≤ 36)) [
        | true ↦ omega arith
        | false ↦ elim (eqb m 98 || eqb m 66) as (λ b. IfSome (cond b (Some 2) (cond (eqb m 100 || eqb m 68) (Some 10) None)) (λ r. r ≤ 36)) [
          | true ↦ omega arith
          | false ↦ elim (eqb m 100 || eqb m 68) as (λ b. IfSome (cond b (Some 10) None) (λ r. r ≤ 36)) [ true ↦ omega arith | false ↦ tt ]
        ]
      ]
    ]

no_radix : (m : ℕ) (ds : List ℕ) → 128 ≤ m → number_in (radix_of m) ds ≡ None
no_radix m ds g = let e : radix_of m ≡ None = grind (arith, nat_tests) in ap (λ o. number_in o ds) e

based_high : (ds : List ℕ) → HasHigh ds → based_number ds ≡ None
based_high [] h = refl
based_high (z ∷ []) h = refl
based_high (z ∷ m ∷ ds) h =
    ⊎_elim
    (λ (l : z < 128). elim (eqb z 48) as (λ b. cond b (number_in (radix_of m) ds) None ≡ None) [
      | true ↦ ⊎_elim (λ (k : m < 128). in_high (radix_of m) ds (radix_small m) (tail_high m ds k (tail_high z (m ∷ ds) l h))) (λ (k : 128 ≤ m). no_radix m ds k) (cases_lt m 128)
      | false ↦ refl
    ])
    (λ (g : 128 ≤ z). cond-false _ _ _ (ne_eqb z 48 (λ e. omega arith)))
    (cases_lt z 128)

unsigned_high : (ds : List ℕ) → HasHigh ds → unsigned ds ≡ None
unfolding unsigned
unsigned_high ds h = ap (λ o. option_or o (based_number ds)) (number_high 10 ds (omega arith) h) ∙ based_high ds h

no_ascii_digit : (c : ℕ) → 128 ≤ c → is_ascii_digit c ≡ false
no_ascii_digit c g = grind (arith, nat_tests)

not_all_digits : (xs : List ℕ) → HasHigh xs → eqb (prefix_len is_ascii_digit xs) (length xs) ≡ false
not_all_digits xs h = let l = front_ends is_ascii_digit no_ascii_digit xs h in ne_eqb _ _ (λ e. omega (arith, h.inside))

exponent_high : (xs : List ℕ) → HasHigh xs → is_exponent xs ≡ false
exponent_high [] h = refl
exponent_high (e ∷ cs) h =
    ⊎_elim
    (λ (l : e < 128). and_right (eqb e 101 || eqb e 69) _ (and_right (ltb 0 (length (without_sign cs))) _ (not_all_digits (without_sign cs) (sign_high cs (tail_high e cs l h)))))
    (λ (g : 128 ≤ e). let q : (eqb e 101 || eqb e 69) ≡ false = grind (arith, nat_tests) in and_left _ _ q)
    (cases_lt e 128)

fraction_high : (n : ℕ) (xs : List ℕ) → HasHigh xs → is_fraction_or_exponent n xs ≡ false
fraction_high n [] h = refl
fraction_high n (c ∷ cs) h =
    let more = prefix_len is_ascii_digit cs in
    ⊎_elim
    (λ (l : c < 128).
    let k = tail_high c cs l h in
    elim (eqb c 46) as (λ b. cond b (ltb 0 (n + more) && (eqb more (length cs) || is_exponent (drop more cs))) (ltb 0 n && is_exponent (c ∷ cs)) ≡ false) [
      | true ↦ and_right (ltb 0 (n + more)) _ (ap (λ b. b || is_exponent (drop more cs)) (not_all_digits cs k) ∙ exponent_high (drop more cs) (drop_high more cs k (front_ends is_ascii_digit no_ascii_digit cs k)))
      | false ↦ and_right (ltb 0 n) _ (exponent_high (c ∷ cs) h)
    ])
    (λ (g : 128 ≤ c). cond-false _ _ _ (ne_eqb c 46 (λ e. omega arith)) ∙ and_right (ltb 0 n) _ (exponent_high (c ∷ cs) h))
    (cases_lt c 128)

decimal_high : (xs : List ℕ) → HasHigh xs → is_decimal_fraction xs ≡ false
unfolding is_decimal_fraction
decimal_high xs h = fraction_high _ _ (drop_high _ xs h (front_ends is_ascii_digit no_ascii_digit xs h))

no_hex_digit : (c : ℕ) → 128 ≤ c → is_ascii_hexdigit c ≡ false
no_hex_digit c g = grind (arith, nat_tests)

no_closing : (xs : List ℕ) → HasHigh xs → is_closing xs ≡ false
no_closing [] h = refl
no_closing (c ∷ []) h =
    ⊎_elim (λ (l : c < 128). let t = tail_high c [] l h in absurd (omega (arith, t.inside))) (λ (g : 128 ≤ c). ne_eqb c 41 (λ e. omega arith)) (cases_lt c 128)
no_closing (c ∷ d ∷ cs) h = refl

closed_high : (xs : List ℕ) → HasHigh xs → is_closed_digits xs ≡ false
closed_high xs h = and_right (ltb 0 (prefix_len is_ascii_hexdigit xs)) _ (no_closing _ (drop_high _ xs h (front_ends is_ascii_hexdigit no_hex_digit xs h)))

nan_high : (xs : List ℕ) → HasHigh xs → is_nan_with_digits xs ≡ false
nan_high xs h =
    ⊎_elim
    (λ (l : h.at < 4). and_left _ _ (no_word (take 4 xs) (codes "nan(") refl (take_high 4 xs h l)))
    (λ (g : 4 ≤ h.at). and_right (str_eq_ignore_ascii_case (take 4 xs) (codes "nan(")) _ (closed_high (drop 4 xs) (drop_high 4 xs h g)))
    (cases_lt h.at 4)

or_false : (a b : Bool) → a ≡ false → b ≡ false → (a || b) ≡ false
or_false a b e f = ap (λ x. x || b) e ∙ f

named_high : (xs : List ℕ) → HasHigh xs → is_named_float xs ≡ false
unfolding is_named_float
named_high xs h =
    or_false _ _ (no_word xs (codes "inf") refl h)
    (or_false _ _ (no_word xs (codes "infinity") refl h) (or_false _ _ (no_word xs (codes "nan") refl h) (nan_high xs h)))

float_high : (xs : List ℕ) → HasHigh xs → is_float_form xs ≡ false
float_high xs h = or_false _ _ (decimal_high xs h) (named_high xs h)

pub whole_high : (t : List ℕ) → HasHigh t → whole t ≡ Err NotWhole
unfolding whole
whole_high t h =
    let b = trim_high t h in
    let d = sign_high (trim t) b in
    ap (λ f. in_range f (is_minus (trim t)) (unsigned (without_sign (trim t)))) (float_high _ d) ∙ ap (in_range false (is_minus (trim t))) (unsigned_high _ d)

pub whole_lifted : (bs : List ℕ) → IsText bs → whole bs ≡ whole (chars bs)
whole_lifted = lifted whole (Err NotWhole) whole_high
