-- The floating point number at the front of a text is the longest front of that form.
use Rattle.std.proofs.Common.{◌≡◌, ℕ, zero, suc, ◌+◌, ◌-◌, ◌<◌, ◌≤◌, ◌==◌, Bool, true, false, ◌||◌, ◌&&◌, cond, if◌then◌else◌, [], ◌∷◌, length, take, drop, nat_lt, inl, inr, refl, sym, ap, ap₂, ◌∙◌, arith, length-drop}
use Rattle.std.proofs.str.Laws as laws
use Rattle.std.specs.List.{prefix_len}
use Rattle.std.specs.Char.{is_ascii_digit}
use Rattle.std.proofs.lemmas.Bool.Decides.{nat_tests}
use Rattle.std.proofs.lemmas.List.{drop-take, length-take-le}
use Rattle.std.proofs.lemmas.List.Sums.{prefix_len-le-length}
use Rattle.tclv_text.specs.Numbers.{is_decimal_fraction, is_fraction_or_exponent, is_exponent, is_digits, without_sign}
use Rattle.tclv_parse.specs.Runs.{Text}
use Rattle.tclv_exprp.specs.Fronts.{first, is_sign, run_len, sign_len}
use Rattle.tclv_exprp.specs.Numerals.{is_exponent_letter, some_behind, scale_len, exponent_len, floating_by, floating_len, IsLongestFront}

abbrev digits : Text → ℕ
digits t = prefix_len is_ascii_digit t

some_is : (n : ℕ) → (suc n == 0) ≡ false
some_is n = grind (arith, nat_tests)

-- ---- fronts of a run of digits

front_by : (c : ℕ) (t : Text) (k : ℕ) (b : Bool) → is_ascii_digit c ≡ b → suc k ≤ digits (c ∷ t) → (k ≤ digits t → digits (take k t) ≡ k) → digits (take (suc k) (c ∷ t)) ≡ suc k
front_by c t k true e h ih = ap (λ b. cond b (1 + digits (take k t)) 0) e ∙ (let i = ih (omega (arith, ap (λ b. cond b (1 + digits t) 0) e)) in omega arith)
front_by c t k false e h ih = absurd (omega (arith, ap (λ b. cond b (1 + digits t) 0) e))

front_of_run : (t : Text) (k : ℕ) → k ≤ digits t → digits (take k t) ≡ k
front_of_run t zero h = refl
front_of_run [] (suc k) h = absurd (omega arith)
front_of_run (c ∷ t) (suc k) h = front_by c t k (is_ascii_digit c) refl h (front_of_run t k)

past_by : (c : ℕ) (t : Text) (k : ℕ) (b : Bool) → is_ascii_digit c ≡ b → digits (c ∷ t) < suc k → (digits t < k → digits (take k t) ≡ digits t) → digits (take (suc k) (c ∷ t)) ≡ digits (c ∷ t)
past_by c t k true e h ih = ap (λ b. cond b (1 + digits (take k t)) 0) e ∙ ap (λ n. 1 + n) (ih (omega (arith, ap (λ b. cond b (1 + digits t) 0) e))) ∙ sym (ap (λ b. cond b (1 + digits t) 0) e)
past_by c t k false e h ih = ap (λ b. cond b (1 + digits (take k t)) 0) e ∙ sym (ap (λ b. cond b (1 + digits t) 0) e)

past_run : (t : Text) (k : ℕ) → digits t < k → digits (take k t) ≡ digits t
past_run t zero h = absurd (omega arith)
past_run [] (suc k) h = refl
past_run (c ∷ t) (suc k) h = past_by c t k (is_ascii_digit c) refl h (past_run t k)

drop_all : (k : ℕ) (t : Text) → drop k (take k t) ≡ []
drop_all zero t = refl
drop_all (suc k) [] = refl
drop_all (suc k) (c ∷ t) = drop_all k t

-- ---- a form behind some characters

record Behind (form inner : Text → Bool) (t u : Text) (k : ℕ) : Type 0 where
  len : length t ≡ k + length u
  early : (i : ℕ) → i ≤ k → form (take i t) ≡ false
  late : (i : ℕ) → 0 < i → form (take (k + i) t) ≡ inner (take i u)

module _ (form inner : Text → Bool) (t u : Text) (k : ℕ) (b : Behind form inner t u k) where
  later : (i : ℕ) → k < i → form (take i t) ≡ inner (take (i - k) u)
  later i h = let e : i ≡ k + (i - k) = omega arith in ap (λ j. form (take j t)) e ∙ b.late (i - k) (omega arith)

  none_by : (i : ℕ) → ((j : ℕ) → 0 < j → j ≤ length u → inner (take j u) ≡ false) → i ≤ length t → form (take i t) ≡ false
  none_by i none h = elim (laws.order k i) [ inl g ↦ later i g ∙ none (i - k) (omega arith) (omega (arith, b.len)) | inr l ↦ b.early i l ]

  shifted : (n : ℕ) → IsLongestFront inner u n → IsLongestFront form t (some_behind k n)
  shifted zero h =
      record {
        within = omega arith;
        front = λ z. absurd (omega arith);
        longest = λ i z g. none_by i (λ j p q. h.longest j p q) g;
      }
  shifted (suc n) h =
      rw (some_is n)
      (record {
        within = omega (arith, b.len, h.within);
        front = λ z. b.late (suc n) (omega arith) ∙ h.front (omega arith);
        longest = λ i p q. later i (omega arith) ∙ h.longest (i - k) (omega arith) (omega (arith, b.len));
      })

-- ---- exponents

digits_yes : (t : Text) (k : ℕ) → 0 < k → k ≤ digits t → is_digits (take k t) ≡ true
digits_yes t k g h =
    let a = length-take-le k t (omega (arith, prefix_len-le-length is_ascii_digit t)) in
    let e = front_of_run t k h in
    grind (arith, nat_tests)

digits_no : (t : Text) (k : ℕ) → digits t < k → k ≤ length t → is_digits (take k t) ≡ false
digits_no t k g h =
    let a = length-take-le k t h in
    let e = past_run t k g in
    grind (arith, nat_tests)

digits_longest : (t : Text) → IsLongestFront is_digits t (digits t)
digits_longest t = record { within = prefix_len-le-length is_ascii_digit t; front = λ h. digits_yes t (digits t) h (omega arith); longest = λ k h g. digits_no t k h g }

letter_alone : (c : ℕ) → is_exponent (c ∷ []) ≡ false
letter_alone c = by ((c == 101) || (c == 69))
  where
    by : (b : Bool) → (b && false) ≡ false
    by true = refl
    by false = refl

and_false : (b x : Bool) → x ≡ false → (b && x) ≡ false
and_false true x e = e
and_false false x e = refl

module _ (c : ℕ) (letter : is_exponent_letter c ≡ true) where
  lettered : (x : Text) → is_exponent (c ∷ x) ≡ is_digits (without_sign x)
  lettered x = ap (λ b. b && is_digits (without_sign x)) letter

  module _ (d : ℕ) (ds : Text) where
    signed : is_sign d ≡ true → Behind is_exponent is_digits (c ∷ d ∷ ds) ds 2
    signed e = record { len = omega arith; early = early; late = late }
      where
        early : (i : ℕ) → i ≤ 2 → is_exponent (take i (c ∷ d ∷ ds)) ≡ false
        early zero h = refl
        early (suc zero) h = letter_alone c
        early (suc (suc zero)) h = lettered (d ∷ []) ∙ ap (λ b. is_digits (if b then [] else d ∷ [])) e
        early (suc (suc (suc i))) h = absurd (omega arith)

        late : (i : ℕ) → 0 < i → is_exponent (take (2 + i) (c ∷ d ∷ ds)) ≡ is_digits (take i ds)
        late i h = let two : 2 + i ≡ suc (suc i) = omega arith in ap (λ j. is_exponent (take j (c ∷ d ∷ ds))) two ∙ lettered (d ∷ take i ds) ∙ ap (λ b. is_digits (if b then take i ds else d ∷ take i ds)) e

    unsigned : is_sign d ≡ false → Behind is_exponent is_digits (c ∷ d ∷ ds) (d ∷ ds) 1
    unsigned e = record { len = omega arith; early = early; late = late }
      where
        early : (i : ℕ) → i ≤ 1 → is_exponent (take i (c ∷ d ∷ ds)) ≡ false
        early zero h = refl
        early (suc zero) h = letter_alone c
        early (suc (suc i)) h = absurd (omega arith)

        late : (i : ℕ) → 0 < i → is_exponent (take (1 + i) (c ∷ d ∷ ds)) ≡ is_digits (take i (d ∷ ds))
        late zero h = absurd (omega arith)
        late (suc i) h = let two : 1 + suc i ≡ suc (suc i) = omega arith in ap (λ j. is_exponent (take j (c ∷ d ∷ ds))) two ∙ lettered (d ∷ take i ds) ∙ ap (λ b. is_digits (if b then take i ds else d ∷ take i ds)) e

    scaled_by : (b : Bool) → is_sign d ≡ b → IsLongestFront is_exponent (c ∷ d ∷ ds) (some_behind (1 + (if b then 1 else 0)) (digits (drop (if b then 1 else 0) (d ∷ ds))))
    scaled_by true e = shifted is_exponent is_digits (c ∷ d ∷ ds) ds 2 (signed e) (digits ds) (digits_longest ds)
    scaled_by false e = shifted is_exponent is_digits (c ∷ d ∷ ds) (d ∷ ds) 1 (unsigned e) (digits (d ∷ ds)) (digits_longest (d ∷ ds))

  short : IsLongestFront is_exponent (c ∷ []) 0
  short = record { within = omega arith; front = λ h. absurd (omega arith); longest = longest }
    where
      longest : (k : ℕ) → 0 < k → k ≤ length (c ∷ []) → is_exponent (take k (c ∷ [])) ≡ false
      longest zero h g = absurd (omega arith)
      longest (suc zero) h g = letter_alone c
      longest (suc (suc k)) h g = absurd (omega arith)

  scaled : (x : Text) → IsLongestFront is_exponent (c ∷ x) (scale_len x)
  unfolding sign_len first run_len
  scaled [] = short
  scaled (d ∷ ds) = scaled_by d ds (is_sign d) refl

no_letter : (c : ℕ) (x : Text) → is_exponent_letter c ≡ false → IsLongestFront is_exponent (c ∷ x) 0
no_letter c x e = record { within = omega arith; front = λ h. absurd (omega arith); longest = longest }
  where
    longest : (k : ℕ) → 0 < k → k ≤ length (c ∷ x) → is_exponent (take k (c ∷ x)) ≡ false
    longest zero h g = refl
    longest (suc k) h g = ap (λ b. b && is_digits (without_sign (take k x))) e

exponent_by : (c : ℕ) (x : Text) (b : Bool) → is_exponent_letter c ≡ b → IsLongestFront is_exponent (c ∷ x) (if b then scale_len x else 0)
exponent_by c x true e = scaled c e x
exponent_by c x false e = no_letter c x e

exponent_longest : (t : Text) → IsLongestFront is_exponent t (exponent_len t)
unfolding exponent_len first
exponent_longest [] = record { within = omega arith; front = λ h. absurd (omega arith); longest = λ k h g. absurd (omega arith) }
exponent_longest (c ∷ x) = exponent_by c x (is_exponent_letter c) refl

-- ---- what stands behind the digits

-- with a point
module _ (n c : ℕ) (cs : Text) (point : (c == 46) ≡ true) where
  pointed : (x : Text) → is_fraction_or_exponent n (c ∷ x) ≡ (nat_lt 0 (n + digits x) && ((digits x == length x) || is_exponent (drop (digits x) x)))
  pointed x = ap (λ b. if b then (nat_lt 0 (n + digits x) && ((digits x == length x) || is_exponent (drop (digits x) x))) else (nat_lt 0 n && is_exponent (c ∷ x))) point

  same_len : (m j : ℕ) → m < j → (m == j) ≡ false
  same_len m j h = grind (arith, nat_tests)

  itself : (j : ℕ) → (j == j) ≡ true
  itself j = grind (arith, nat_tests)

  and_true : (b : Bool) → (b && true) ≡ b
  and_true true = refl
  and_true false = refl

  at_less : (j : ℕ) → j ≤ digits cs → is_fraction_or_exponent n (c ∷ take j cs) ≡ nat_lt 0 (n + j)
  at_less j h =
      let len = length-take-le j cs (omega (arith, prefix_len-le-length is_ascii_digit cs)) in
      pointed (take j cs)
      ∙ ap₂ (λ k l. nat_lt 0 (n + k) && ((k == l) || is_exponent (drop k (take j cs)))) (front_of_run cs j h) len
      ∙ ap (λ b. nat_lt 0 (n + j) && (b || is_exponent (drop j (take j cs)))) (itself j)
      ∙ and_true (nat_lt 0 (n + j))

  at_more : (j : ℕ) → digits cs < j → j ≤ length cs → is_fraction_or_exponent n (c ∷ take j cs) ≡ (nat_lt 0 (n + digits cs) && is_exponent (take (j - digits cs) (drop (digits cs) cs)))
  at_more j h g =
      let m = digits cs in
      let e : j ≡ m + (j - m) = omega arith in
      let rest : drop m (take j cs) ≡ take (j - m) (drop m cs) = ap (λ k. drop m (take k cs)) e ∙ drop-take m (j - m) cs in
      pointed (take j cs)
      ∙ ap₂ (λ k l. nat_lt 0 (n + k) && ((k == l) || is_exponent (drop k (take j cs)))) (past_run cs j h) (length-take-le j cs g)
      ∙ ap₂ (λ b y. nat_lt 0 (n + m) && (b || is_exponent y)) (same_len m j h) rest

  no_digits : n + digits cs ≡ 0 → IsLongestFront (is_fraction_or_exponent n) (c ∷ cs) 0
  no_digits e = record { within = omega arith; front = λ h. absurd (omega arith); longest = longest }
    where
      none : (k : ℕ) → k ≡ 0 → nat_lt 0 k ≡ false
      none k z = ap (nat_lt 0) z

      longest : (k : ℕ) → 0 < k → k ≤ length (c ∷ cs) → is_fraction_or_exponent n (take k (c ∷ cs)) ≡ false
      longest zero h g = absurd (omega arith)
      longest (suc j) h g =
          elim (laws.order (digits cs) j) [
            | inl l ↦ at_more j l (omega arith) ∙ ap (λ b. b && is_exponent (take (j - digits cs) (drop (digits cs) cs))) (none (n + digits cs) e)
            | inr l ↦ at_less j l ∙ none (n + j) (omega arith)
          ]

  positive : (k : ℕ) → 0 < k → nat_lt 0 k ≡ true
  positive k h = grind (arith, nat_tests)

  some_digits : (x : ℕ) → 0 < n + digits cs → IsLongestFront is_exponent (drop (digits cs) cs) x → IsLongestFront (is_fraction_or_exponent n) (c ∷ cs) (suc (digits cs + x))
  some_digits x some e = record { within = omega (arith, e.within, prefix_len-le-length is_ascii_digit cs, length-drop (digits cs) cs); front = λ h. front x e; longest = longest }
    where
      front : (x : ℕ) → IsLongestFront is_exponent (drop (digits cs) cs) x → is_fraction_or_exponent n (take (suc (digits cs + x)) (c ∷ cs)) ≡ true
      front zero e = let m : digits cs + 0 ≡ digits cs = omega arith in ap (λ k. is_fraction_or_exponent n (c ∷ take k cs)) m ∙ at_less (digits cs) (omega arith) ∙ positive (n + digits cs) some
      front (suc x) e =
          let back : digits cs + suc x - digits cs ≡ suc x = omega arith in
          at_more (digits cs + suc x) (omega arith) (omega (arith, e.within, prefix_len-le-length is_ascii_digit cs, length-drop (digits cs) cs))
          ∙ ap₂ ◌&&◌ (positive (n + digits cs) some) (ap (λ k. is_exponent (take k (drop (digits cs) cs))) back ∙ e.front (omega arith))

      longest : (k : ℕ) → suc (digits cs + x) < k → k ≤ length (c ∷ cs) → is_fraction_or_exponent n (take k (c ∷ cs)) ≡ false
      longest zero h g = absurd (omega arith)
      longest (suc j) h g =
          at_more j (omega arith) (omega arith)
          ∙ and_false (nat_lt 0 (n + digits cs)) _ (e.longest (j - digits cs) (omega arith) (omega (arith, length-drop (digits cs) cs)))

-- without one
module _ (n : ℕ) where
  nothing : IsLongestFront (is_fraction_or_exponent n) [] 0
  nothing = record { within = omega arith; front = λ h. absurd (omega arith); longest = λ k h g. absurd (omega arith) }

unpointed : (n c : ℕ) (x : Text) → (c == 46) ≡ false → is_fraction_or_exponent n (c ∷ x) ≡ (nat_lt 0 n && is_exponent (c ∷ x))
unpointed n c x e = ap (λ b. if b then (nat_lt 0 (n + digits x) && ((digits x == length x) || is_exponent (drop (digits x) x))) else (nat_lt 0 n && is_exponent (c ∷ x))) e

no_scale : (c : ℕ) (cs : Text) → (c == 46) ≡ false → IsLongestFront (is_fraction_or_exponent 0) (c ∷ cs) 0
no_scale c cs e = record { within = omega arith; front = λ h. absurd (omega arith); longest = longest }
  where
    longest : (k : ℕ) → 0 < k → k ≤ length (c ∷ cs) → is_fraction_or_exponent 0 (take k (c ∷ cs)) ≡ false
    longest zero h g = refl
    longest (suc k) h g = unpointed 0 c (take k cs) e

scale_is : (n c : ℕ) (cs : Text) (k : ℕ) → (c == 46) ≡ false → is_fraction_or_exponent (suc n) (take k (c ∷ cs)) ≡ is_exponent (take k (c ∷ cs))
scale_is n c cs zero e = refl
scale_is n c cs (suc k) e = let some : nat_lt 0 (suc n) ≡ true = grind (arith, nat_tests) in unpointed (suc n) c (take k cs) e ∙ ap (λ b. b && is_exponent (c ∷ take k cs)) some

scale : (n c : ℕ) (cs : Text) (x : ℕ) → (c == 46) ≡ false → IsLongestFront is_exponent (c ∷ cs) x → IsLongestFront (is_fraction_or_exponent (suc n)) (c ∷ cs) x
scale n c cs x e h =
    record {
      within = h.within;
      front = λ g. scale_is n c cs x e ∙ h.front g;
      longest = λ k g l. scale_is n c cs k e ∙ h.longest k g l;
    }

-- ---- all texts

behind_digits : (t : Text) → Behind is_decimal_fraction (is_fraction_or_exponent (digits t)) t (drop (digits t) t) (digits t)
unfolding is_decimal_fraction
behind_digits t =
    record {
      len = omega (arith, length-drop (digits t) t, prefix_len-le-length is_ascii_digit t);
      early = λ i h. ap (λ k. is_fraction_or_exponent k (drop k (take i t))) (front_of_run t i h) ∙ ap (is_fraction_or_exponent i) (drop_all i t);
      late = λ i h. ap (λ k. is_fraction_or_exponent k (drop k (take (digits t + i) t))) (past_run t (digits t + i) (omega arith)) ∙ ap (is_fraction_or_exponent (digits t)) (drop-take (digits t) i t);
    }

of_len : {form : Text → Bool} {t : Text} (m n : ℕ) → m ≡ n → IsLongestFront form t m → IsLongestFront form t n
of_len m n e h = rw (← e) h

pointed_by : (t : Text) (n c : ℕ) (cs : Text) (k : ℕ) → Behind is_decimal_fraction (is_fraction_or_exponent n) t (c ∷ cs) n → (c == 46) ≡ true → n + digits cs ≡ k →
    IsLongestFront is_decimal_fraction t (if k == 0 then 0 else n + (1 + digits cs) + exponent_len (drop (digits cs) cs))
pointed_by t n c cs zero b e z = shifted is_decimal_fraction (is_fraction_or_exponent n) t (c ∷ cs) n b 0 (no_digits n c cs e z)
pointed_by t n c cs (suc k) b e z =
    let m = digits cs in
    let x = exponent_len (drop m cs) in
    let all = shifted is_decimal_fraction (is_fraction_or_exponent n) t (c ∷ cs) n b (suc (m + x)) (some_digits n c cs e x (omega arith) (exponent_longest (drop m cs))) in
    let len : n + suc (m + x) ≡ n + (1 + m) + x = omega arith in
    rw (some_is k) (of_len (n + suc (m + x)) (n + (1 + m) + x) len (rw (some_is (m + x)) at all))

unpointed_by : (t : Text) (n c : ℕ) (cs : Text) → Behind is_decimal_fraction (is_fraction_or_exponent n) t (c ∷ cs) n → (c == 46) ≡ false →
    IsLongestFront is_decimal_fraction t (if n == 0 then 0 else some_behind n (exponent_len (c ∷ cs)))
unpointed_by t zero c cs b e = shifted is_decimal_fraction (is_fraction_or_exponent 0) t (c ∷ cs) 0 b 0 (no_scale c cs e)
unpointed_by t (suc n) c cs b e = rw (some_is n) (shifted is_decimal_fraction (is_fraction_or_exponent (suc n)) t (c ∷ cs) (suc n) b (exponent_len (c ∷ cs)) (scale n c cs (exponent_len (c ∷ cs)) e (exponent_longest (c ∷ cs))))

marked_by : (t : Text) (n c : ℕ) (cs : Text) (p : Bool) → Behind is_decimal_fraction (is_fraction_or_exponent n) t (c ∷ cs) n → (c == 46) ≡ p →
    IsLongestFront is_decimal_fraction t (if p then (if n + digits cs == 0 then 0 else n + (1 + digits cs) + exponent_len (drop (digits cs) cs)) else (if n == 0 then 0 else some_behind n (exponent_len (c ∷ cs))))
marked_by t n c cs true b e = pointed_by t n c cs (n + digits cs) b e refl
marked_by t n c cs false b e = unpointed_by t n c cs b e

ended : (b : Bool) (n : ℕ) → (if b then 0 else some_behind n 0) ≡ 0
ended true n = refl
ended false n = refl

floating_by_longest : (t : Text) (n : ℕ) (u : Text) → Behind is_decimal_fraction (is_fraction_or_exponent n) t u n → IsLongestFront is_decimal_fraction t (floating_by u n)
unfolding first run_len exponent_len
floating_by_longest t n [] b = of_len 0 _ (sym (ended (n == 0) n)) (shifted is_decimal_fraction (is_fraction_or_exponent n) t [] n b 0 (nothing n))
floating_by_longest t n (c ∷ cs) b = marked_by t n c cs (c == 46) b refl

pub floating_longest : (t : Text) → IsLongestFront is_decimal_fraction t (floating_len t)
unfolding floating_len run_len
floating_longest t = floating_by_longest t (digits t) (drop (digits t) t) (behind_digits t)
