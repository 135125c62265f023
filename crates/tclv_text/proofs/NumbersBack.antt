-- The decimal text of a number reads as that number.
use Rattle.std.proofs.Common.{◌≡◌, ℕ, suc, ◌+◌, ◌-◌, ◌*◌, ◌^◌, ◌<◌, ◌≤◌, true, false, List, [], ◌∷◌, Some, Ok, length, get_or, take, drop, sym, ap, ◌∙◌, subst, refl, arith, eqb, ◌||◌, reverse, ℤ, pos, negsuc, neg_ℤ}
use Rattle.std.proofs.lemmas.List.{get_or-reverse, length-reverse, take_all}
use Rattle.std.proofs.lemmas.List.Sums.{prefix_len-drop_no}
use Rattle.std.proofs.lemmas.Bool.{cond-true, cond-false, lt-ltb, le-leb}
use Rattle.std.proofs.lemmas.Bool.Decides.{nat_tests}
use Rattle.std.proofs.lemmas.Str.Parse.{digit_at, digit_from_value}
use Rattle.std.proofs.lemmas.Fmt.{decimal_is_IsNumeral}
use Rattle.std.specs.Option.{option_or}
use Rattle.std.specs.List.{prefix_len, suffix_len}
use Rattle.std.specs.Char.{digit_value}
use Rattle.std.specs.Int.RustNames.{FitsSigned}
use Rattle.std.specs.Fmt.{decimal}
use Rattle.std.specs.Str.Parse.{AllDigits, IsNumeral, digits_value, digits_value_after}
use mir.Syntax.{w64}
use Rattle.std.proofs.lemmas.Int.{ints}
use Rattle.tclv_text.specs.Characters.{is_space}
use Rattle.tclv_text.specs.Numbers.{trim, digits_after, number, unsigned, based_number, without_sign, is_minus, is_float_form, in_range, whole, whole_text}

value_of_digits : (n : ℕ) (ds : List ℕ) → AllDigits 10 ds → digits_after 10 n ds ≡ Some (digits_value_after 10 n ds)
value_of_digits n [] h = refl
value_of_digits n (c ∷ cs) h = cond-true _ _ _ (lt-ltb (digit_value c) 10 h.0) ∙ value_of_digits (n * 10 + digit_value c) cs h.1

number_of_digits : (ds : List ℕ) → IsNumeral 10 ds → number 10 ds ≡ Some (digits_value 10 ds)
number_of_digits [] h = absurd (omega (arith, h.0))
number_of_digits (c ∷ cs) h = value_of_digits 0 (c ∷ cs) h.1

no_space : (c : ℕ) → 33 ≤ c → is_space c ≡ false
no_space c h = grind (arith, nat_tests)

trim_plain : (t : List ℕ) → 0 < length t → 33 ≤ get_or t 0 0 → 33 ≤ get_or t (length t - 1) 0 → trim t ≡ t
unfolding trim
trim_plain t l a b =
    let front : prefix_len is_space t ≡ 0 = prefix_len-drop_no is_space t 0 0 l (no_space (get_or t 0 0) a) in
    let last : length t - 1 - 0 ≡ length t - 1 = omega arith in
    let e : get_or (reverse t) 0 0 ≡ get_or t (length t - 1) 0 = get_or-reverse t 0 0 l ∙ ap (λ k. get_or t k 0) last in
    let back : suffix_len is_space t ≡ 0 =
    prefix_len-drop_no is_space (reverse t) 0 0 (omega (arith, length-reverse t)) (no_space (get_or (reverse t) 0 0) (omega arith)) in
    ap (λ k. take (length (drop k t) - suffix_len is_space (drop k t)) (drop k t)) front ∙ take_all (length t - suffix_len is_space t) t (omega arith)

first_digit : (ds : List ℕ) → IsNumeral 10 ds → (i : ℕ) → i < length ds → 48 ≤ get_or ds i 0
first_digit ds h i l = (digit_at ds i h.1 l).0

plain_sign : (ds : List ℕ) → IsNumeral 10 ds → (without_sign ds ≡ ds) × (is_minus ds ≡ false)
plain_sign [] h = (refl, refl)
plain_sign (c ∷ cs) h =
    let d = digit_from_value c h.1.0 in
    let e : (eqb c 43 || eqb c 45) ≡ false = grind (arith, nat_tests) in
    let f : eqb c 45 ≡ false = grind (arith, nat_tests) in
    (cond-false _ _ _ e, f)

read : (ds : List ℕ) (n : ℕ) → IsNumeral 10 ds → digits_value 10 ds ≡ n → unsigned ds ≡ Some n
unfolding unsigned
read ds n h e = ap (λ o. option_or o (based_number ds)) (number_of_digits ds h ∙ ap Some e)

whole_digits : (ds : List ℕ) (n : ℕ) → IsNumeral 10 ds → digits_value 10 ds ≡ n → n < 2 ^ 63 → whole ds ≡ Ok (pos n)
unfolding whole
whole_digits ds n h e l =
    let some = h.0 in
    let t = trim_plain ds some (omega (arith, first_digit ds h 0 some)) (omega (arith, first_digit ds h (length ds - 1) (omega arith))) in
    let s = plain_sign ds h in
    ap (λ b. in_range (is_float_form (without_sign b)) (is_minus b) (unsigned (without_sign b))) t
    ∙ ap (λ m. in_range (is_float_form (without_sign ds)) m (unsigned (without_sign ds))) s.1
    ∙ ap (in_range (is_float_form (without_sign ds)) false) (ap unsigned s.0 ∙ read ds n h e)
    ∙ cond-true _ _ _ (lt-ltb n (2 ^ 63) l)

minus_last : (ds : List ℕ) → IsNumeral 10 ds → 33 ≤ get_or (45 ∷ ds) (length ds) 0
minus_last [] h = absurd (omega (arith, h.0))
minus_last (c ∷ cs) h = omega (arith, first_digit (c ∷ cs) h (length cs) (omega arith))

whole_minus : (ds : List ℕ) (n : ℕ) → IsNumeral 10 ds → digits_value 10 ds ≡ n → n ≤ 2 ^ 63 → whole (45 ∷ ds) ≡ Ok (neg_ℤ (pos n))
unfolding whole
whole_minus ds n h e l =
    let end : suc (length ds) - 1 ≡ length ds = omega arith in
    let t = trim_plain (45 ∷ ds) (omega arith) (omega arith) (subst (λ k. 33 ≤ get_or (45 ∷ ds) k 0) (sym end) (minus_last ds h)) in
    ap (λ b. in_range (is_float_form (without_sign b)) (is_minus b) (unsigned (without_sign b))) t
    ∙ ap (in_range (is_float_form ds) true) (read ds n h e)
    ∙ cond-true _ _ _ (le-leb n (2 ^ 63) l)

pub whole_back : (z : ℤ) → FitsSigned w64 z → whole (whole_text z) ≡ Ok z
whole_back (pos n) h = let l : n < 2 ^ 63 = omega (arith, ints) in let d = decimal_is_IsNumeral n (omega arith) in whole_digits (decimal n) n d.0 d.1 l
whole_back (negsuc n) h = let l : n < 2 ^ 63 = omega (arith, ints) in let d = decimal_is_IsNumeral (suc n) (omega arith) in whole_minus (decimal (suc n)) (suc n) d.0 d.1 (omega arith)
