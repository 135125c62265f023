-- The whole number at the front of a text is the longest front of that form.
use Rattle.std.proofs.Common.{◌≡◌, ℕ, zero, suc, ◌+◌, ◌*◌, ◌<◌, ◌≤◌, ◌==◌, Bool, true, false, ◌||◌, cond, if◌then◌else◌, [], ◌∷◌, length, take, Option, Some, None, refl, sym, ap, ap₂, ◌∙◌, arith}
use Rattle.std.specs.List.{prefix_len}
use Rattle.std.specs.Char.{is_digit, digit_value, is_ascii_digit}
use Rattle.std.specs.Option.{option_or}
use Rattle.std.proofs.lemmas.Bool.{eqb-true}
use Rattle.std.proofs.lemmas.Bool.Decides.{nat_tests}
use Rattle.std.proofs.lemmas.List.Sums.{prefix_len-le-length}
use Rattle.tclv_text.specs.Numbers.{digits_after, number, radix_of, number_in, based_number, unsigned}
use Rattle.tclv_parse.specs.Runs.{Text}
use Rattle.tclv_exprp.specs.declared.fronts.Class.{Class}
use Rattle.tclv_exprp.specs.declared.fronts.Class.TheVariants as class
use Rattle.tclv_exprp.specs.Fronts.{first, is_in, run_len, digits_len}
use Rattle.tclv_exprp.specs.Numerals.{named_base, based_by, based_digits, whole_by, whole_len, is_there, is_whole, IsLongestFront}

-- ---- digits

abbrev radix_for : Class → ℕ
radix_for class.Name = 0
radix_for class.Binary = 2
radix_for class.Octal = 8
radix_for class.Decimal = 10
radix_for class.Hexadecimal = 16

abbrev is_base : Class → Bool
is_base class.Name = false
is_base _ = true

digit_is : (k : Class) (c : ℕ) → is_base k ≡ true → is_in k c ≡ is_digit c (radix_for k)
digit_is class.Name c e = cc
digit_is class.Binary c e = grind (arith, nat_tests)
digit_is class.Octal c e = grind (arith, nat_tests)
digit_is class.Decimal c e = grind (arith, nat_tests)
digit_is class.Hexadecimal c e = grind (arith, nat_tests)

module _ (p : ℕ → Bool) (r : ℕ) (same : (c : ℕ) → p c ≡ is_digit c r) where
  len_yes : (c : ℕ) (t : Text) → p c ≡ true → prefix_len p (c ∷ t) ≡ 1 + prefix_len p t
  len_yes c t e = ap (λ b. cond b (1 + prefix_len p t) 0) e

  len_no : (c : ℕ) (t : Text) → p c ≡ false → prefix_len p (c ∷ t) ≡ 0
  len_no c t e = ap (λ b. cond b (1 + prefix_len p t) 0) e

  one_digit : (c n j : ℕ) (t : Text) (b : Bool) → p c ≡ b → is_there (digits_after r n (take (suc j) (c ∷ t))) ≡ is_there (if b then digits_after r (n * r + digit_value c) (take j t) else None)
  one_digit c n j t b e = ap (λ x. is_there (if x then digits_after r (n * r + digit_value c) (take j t) else None)) (sym (same c) ∙ e)

  digits_yes_by : (c : ℕ) (t : Text) (j n : ℕ) (b : Bool) → p c ≡ b → suc j ≤ prefix_len p (c ∷ t) → ((m : ℕ) → j ≤ prefix_len p t → is_there (digits_after r m (take j t)) ≡ true) → is_there (digits_after r n (take (suc j) (c ∷ t))) ≡ true
  digits_yes_by c t j n true e h ih = one_digit c n j t true e ∙ ih _ (omega (arith, len_yes c t e))
  digits_yes_by c t j n false e h ih = absurd (omega (arith, len_no c t e))

  digits_yes : (t : Text) (j n : ℕ) → j ≤ prefix_len p t → is_there (digits_after r n (take j t)) ≡ true
  digits_yes t zero n h = refl
  digits_yes [] (suc j) n h = absurd (omega arith)
  digits_yes (c ∷ t) (suc j) n h = digits_yes_by c t j n (p c) refl h (λ m. digits_yes t j m)

  digits_no_by : (c : ℕ) (t : Text) (j n : ℕ) (b : Bool) → p c ≡ b → prefix_len p (c ∷ t) < suc j → ((m : ℕ) → prefix_len p t < j → is_there (digits_after r m (take j t)) ≡ false) → is_there (digits_after r n (take (suc j) (c ∷ t))) ≡ false
  digits_no_by c t j n true e h ih = one_digit c n j t true e ∙ ih _ (omega (arith, len_yes c t e))
  digits_no_by c t j n false e h ih = one_digit c n j t false e

  digits_no : (t : Text) (j n : ℕ) → prefix_len p t < j → j ≤ length t → is_there (digits_after r n (take j t)) ≡ false
  digits_no t zero n h g = absurd (omega arith)
  digits_no [] (suc j) n h g = absurd (omega arith)
  digits_no (c ∷ t) (suc j) n h g = digits_no_by c t j n (p c) refl h (λ m k. digits_no t j m k (omega arith))

  number_yes : (t : Text) (j : ℕ) → 0 < j → j ≤ prefix_len p t → is_there (number r (take j t)) ≡ true
  number_yes t zero g h = absurd (omega arith)
  number_yes [] (suc j) g h = absurd (omega arith)
  number_yes (c ∷ t) (suc j) g h = digits_yes (c ∷ t) (suc j) 0 h

  number_no : (t : Text) (j : ℕ) → prefix_len p t < j → j ≤ length t → is_there (number r (take j t)) ≡ false
  number_no t zero h g = absurd (omega arith)
  number_no [] (suc j) h g = absurd (omega arith)
  number_no (c ∷ t) (suc j) h g = digits_no (c ∷ t) (suc j) 0 h g

decimal : (c : ℕ) → is_ascii_digit c ≡ is_digit c 10
decimal c = digit_is class.Decimal c refl

-- ---- both forms

there_or : (a b : Option ℕ) → is_there (option_or a b) ≡ (is_there a || is_there b)
there_or None b = refl
there_or (Some n) b = refl

at_first : (x : Text) → is_there (number 10 x) ≡ true → is_whole x ≡ true
unfolding unsigned
at_first x e = there_or (number 10 x) (based_number x) ∙ ap (λ b. b || is_there (based_number x)) e

at_second : (x : Text) (a : Bool) → is_there (number 10 x) ≡ a → is_there (based_number x) ≡ true → is_whole x ≡ true
unfolding unsigned
at_second x true d e = at_first x d
at_second x false d e = there_or (number 10 x) (based_number x) ∙ ap₂ ◌||◌ d e

at_neither : (x : Text) → is_there (number 10 x) ≡ false → is_there (based_number x) ≡ false → is_whole x ≡ false
unfolding unsigned
at_neither x d e = there_or (number 10 x) (based_number x) ∙ ap₂ ◌||◌ d e

-- ---- decimal digits alone

plain : (t : Text) → ((k : ℕ) → is_there (based_number (take k t)) ≡ false) → IsLongestFront is_whole t (digits_len t)
unfolding run_len
plain t none =
    record {
      within = prefix_len-le-length is_ascii_digit t;
      front = λ h. at_first (take (digits_len t) t) (number_yes is_ascii_digit 10 decimal t (digits_len t) h (omega arith));
      longest = λ k h g. at_neither (take k t) (number_no is_ascii_digit 10 decimal t k h g) (none k);
    }

-- ---- named bases

abbrev radix_of_class : Option Class → Option ℕ
radix_of_class None = None
radix_of_class (Some k) = Some (radix_for k)

radix_is : (x o b d : Bool) →
    (if x then Some 16 else (if o then Some 8 else (if b then Some 2 else (if d then Some 10 else None))))
    ≡ radix_of_class (if x then Some class.Hexadecimal else (if o then Some class.Octal else (if b then Some class.Binary else (if d then Some class.Decimal else None))))
radix_is true o b d = refl
radix_is false true b d = refl
radix_is false false true d = refl
radix_is false false false true = refl
radix_is false false false false = refl

radix_named : (m : ℕ) → radix_of m ≡ radix_of_class (named_base m)
radix_named m = radix_is (m == 120 || m == 88) (m == 111 || m == 79) (m == 98 || m == 66) (m == 100 || m == 68)

-- a letter that names a base
record Named (m : ℕ) (k : Class) : Type 0 where
  digit : is_ascii_digit m ≡ false
  base : is_base k ≡ true
  radix : radix_of m ≡ Some (radix_for k)

letter : (m : ℕ) (k j : Class) → is_ascii_digit m ≡ false → is_base j ≡ true → named_base m ≡ Some k → j ≡ k → Named m k
letter m k j d q e h = record { digit = d; base = ap is_base (sym h) ∙ q; radix = radix_named m ∙ ap radix_of_class e }

named_by : (m : ℕ) (k : Class) (x o b d : Bool) → (m == 120 || m == 88) ≡ x → (m == 111 || m == 79) ≡ o → (m == 98 || m == 66) ≡ b → (m == 100 || m == 68) ≡ d →
    (if x then Some class.Hexadecimal else (if o then Some class.Octal else (if b then Some class.Binary else (if d then Some class.Decimal else None)))) ≡ Some k → named_base m ≡ Some k → Named m k
named_by m k true o b d ex eo eb ed h n = letter m k class.Hexadecimal (grind (arith, nat_tests)) refl n (cc)
named_by m k false true b d ex eo eb ed h n = letter m k class.Octal (grind (arith, nat_tests)) refl n (cc)
named_by m k false false true d ex eo eb ed h n = letter m k class.Binary (grind (arith, nat_tests)) refl n (cc)
named_by m k false false false true ex eo eb ed h n = letter m k class.Decimal (grind (arith, nat_tests)) refl n (cc)
named_by m k false false false false ex eo eb ed h n = cc

named : (m : ℕ) (k : Class) → named_base m ≡ Some k → Named m k
named m k e = named_by m k (m == 120 || m == 88) (m == 111 || m == 79) (m == 98 || m == 66) (m == 100 || m == 68) refl refl refl refl e e

second_no : (a b : Bool) (x : Option ℕ) → b ≡ false → is_there (if a then (if b then x else None) else None) ≡ false
second_no true true x e = cc
second_no true false x e = refl
second_no false b x e = refl

module _ (z m : ℕ) (ds : Text) (zero_is : (z == 48) ≡ true) (k : Class) (n : Named m k) where
  same : (c : ℕ) → is_in k c ≡ is_digit c (radix_for k)
  same c = digit_is k c n.base

  no_decimal : (j : ℕ) → is_there (number 10 (take (suc (suc j)) (z ∷ m ∷ ds))) ≡ false
  no_decimal j = second_no (is_digit z 10) (is_digit m 10) (digits_after 10 ((0 * 10 + digit_value z) * 10 + digit_value m) (take j ds)) (sym (decimal m) ∙ n.digit)

  digits_are : (j : ℕ) → based_number (take (suc (suc j)) (z ∷ m ∷ ds)) ≡ number (radix_for k) (take j ds)
  digits_are j = ap₂ (λ b o. if b then number_in o (take j ds) else None) zero_is n.radix

  no_digits : (j : ℕ) → prefix_len (is_in k) ds ≡ 0 → j ≤ length ds → is_there (number (radix_for k) (take j ds)) ≡ false
  no_digits zero e h = refl
  no_digits (suc j) e h = number_no (is_in k) (radix_for k) same ds (suc j) (omega arith) h

  alone : prefix_len (is_in k) ds ≡ 0 → IsLongestFront is_whole (z ∷ m ∷ ds) 1
  alone e =
      record {
        within = omega arith;
        front = λ h. at_first (z ∷ []) (ap (λ c. is_there (number 10 (c ∷ []))) (eqb-true z 48 zero_is));
        longest = λ i h g. further i h g;
      }
    where
      further : (i : ℕ) → 1 < i → i ≤ length (z ∷ m ∷ ds) → is_whole (take i (z ∷ m ∷ ds)) ≡ false
      further zero h g = absurd (omega arith)
      further (suc zero) h g = absurd (omega arith)
      further (suc (suc j)) h g = at_neither (take (suc (suc j)) (z ∷ m ∷ ds)) (no_decimal j) (ap is_there (digits_are j) ∙ no_digits j e (omega arith))

  with_digits : (r : ℕ) → prefix_len (is_in k) ds ≡ suc r → IsLongestFront is_whole (z ∷ m ∷ ds) (suc (suc (suc r)))
  with_digits r e =
      record {
        within = omega (arith, prefix_len-le-length (is_in k) ds);
        front = λ h. at_second (take (suc (suc (suc r))) (z ∷ m ∷ ds)) _ refl (ap is_there (digits_are (suc r)) ∙ number_yes (is_in k) (radix_for k) same ds (suc r) (omega arith) (omega arith));
        longest = λ i h g. further i h g;
      }
    where
      further : (i : ℕ) → suc (suc (suc r)) < i → i ≤ length (z ∷ m ∷ ds) → is_whole (take i (z ∷ m ∷ ds)) ≡ false
      further zero h g = absurd (omega arith)
      further (suc zero) h g = absurd (omega arith)
      further (suc (suc j)) h g = at_neither (take (suc (suc j)) (z ∷ m ∷ ds)) (no_decimal j) (ap is_there (digits_are j) ∙ number_no (is_in k) (radix_for k) same ds j (omega arith) (omega arith))

  based : (r : ℕ) → prefix_len (is_in k) ds ≡ r → IsLongestFront is_whole (z ∷ m ∷ ds) (if r == 0 then 1 else 2 + r)
  based zero e = alone e
  based (suc r) e = let two : 2 + suc r ≡ suc (suc (suc r)) = omega arith in let some : (suc r == 0) ≡ false = grind (arith, nat_tests) in rw (two, some) (with_digits r e)

-- ---- all texts

no_base : (z m : ℕ) (ds : Text) → (if z == 48 then radix_of m else None) ≡ None → (k : ℕ) → is_there (based_number (take k (z ∷ m ∷ ds))) ≡ false
no_base z m ds e zero = refl
no_base z m ds e (suc zero) = refl
no_base z m ds e (suc (suc j)) = by (z == 48) (radix_of m) e
  where
    by : (b : Bool) (o : Option ℕ) → (if b then o else None) ≡ None → is_there (if b then number_in o (take j ds) else None) ≡ false
    by true None h = refl
    by true (Some r) h = cc
    by false o h = refl

decide : (z m : ℕ) (ds : Text) (b : Bool) (o : Option Class) → (z == 48) ≡ b → named_base m ≡ o → IsLongestFront is_whole (z ∷ m ∷ ds) (whole_by (z ∷ m ∷ ds) (based_by (z ∷ m ∷ ds) (if b then o else None)))
unfolding run_len
decide z m ds false o e h = plain (z ∷ m ∷ ds) (no_base z m ds (ap (λ b. if b then radix_of m else None) e))
decide z m ds true None e h = plain (z ∷ m ∷ ds) (no_base z m ds (ap₂ (λ b o. if b then o else None) e (radix_named m ∙ ap radix_of_class h)))
decide z m ds true (Some k) e h = based z m ds e k (named m k h) (prefix_len (is_in k) ds) refl

none_short : (c : ℕ) (k : ℕ) → is_there (based_number (take k (c ∷ []))) ≡ false
none_short c zero = refl
none_short c (suc zero) = refl
none_short c (suc (suc k)) = refl

none_empty : (k : ℕ) → is_there (based_number (take k [])) ≡ false
none_empty zero = refl
none_empty (suc k) = refl

either_none : (b : Bool) (t : Text) → IsLongestFront is_whole t (digits_len t) → IsLongestFront is_whole t (whole_by t (based_by t (if b then None else None)))
either_none true t h = h
either_none false t h = h

pub whole_longest : (t : Text) → IsLongestFront is_whole t (whole_len t)
unfolding whole_len based_digits first
whole_longest [] = plain [] none_empty
whole_longest (c ∷ []) = either_none (c == 48) (c ∷ []) (plain (c ∷ []) (none_short c))
whole_longest (z ∷ m ∷ ds) = decide z m ds (z == 48) (named_base m) refl refl
