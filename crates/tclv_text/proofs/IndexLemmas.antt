-- Where a text may be cut into a place and a number: at one sign only.
use Rattle.std.proofs.Common.{lit<, ◌≡◌, ℕ, zero, suc, ◌+◌, ◌-◌, ◌*◌, ◌<◌, ◌≤◌, Bool, true, false, not, cond, List, [], ◌∷◌, ◌++◌, Option, Some, None, Result, Ok, Err, length, get_or, take, drop, sym, ap, ◌∙◌, subst, refl, arith, eqb, reverse, min, append_assoc, ℤ, pos, neg_ℤ, ◌+ℤ◌, ◌-ℤ◌, ◌≤ℤ◌, ◌^◌, to_z, of_z}
use mir.Syntax.{w128}
use Rattle.std.proofs.lemmas.Int.{ints}
use Rattle.std.proofs.lemmas.List.{length-drop, length-take, length-take-le, length-append, append-nil, get_or-append-add, take_all, get_or-drop, get_or-take, get_or-reverse, get_or_append_left, take-append-drop}
use Rattle.std.proofs.Math.Seq.{get_or-append_seam, drop-cons}
use Rattle.std.proofs.Math.Numerals.{add-one}
use Rattle.std.proofs.lemmas.List.Sums.{prefix_len_passes, prefix_len_is}
use Rattle.std.proofs.lemmas.Bool.{cases_lt, cases_Bool, cond-true, cond-false, ne_eqb, or_parts, or_left, or_right, not_from_false, not_from_true, false_from_ne_true, true≢false}
use Rattle.std.proofs.lemmas.Bool.Decides.{nat_tests}
use Rattle.std.proofs.lemmas.Slice.Eq.{bytes_eq-Decides}
use Rattle.std.specs.Prelude.{codes}
use Rattle.std.specs.Option.{option_or, IfSome}
use Rattle.std.specs.Result.{result_ok}
use Rattle.std.specs.List.{prefix_len, suffix_len}
use Rattle.std.specs.Str.{bytes_eq, chars}
use Rattle.std.specs.Char.{digit_value, is_digit}
use mathlib.Core.Logic.{⊎_elim, ◌⊎◌, inl, inr}
use Rattle.tclv_text.specs.Characters.{is_space}
use Rattle.tclv_text.specs.Numbers.{trim, trim_end, digits_after, number, radix_of, number_in, based_number, unsigned, without_sign, is_minus, is_float_form, in_range, whole}
use Rattle.tclv_text.specs.declared.numbers.WholeFault.{WholeFault}
use Rattle.tclv_text.specs.declared.numbers.WholeFault.TheVariants.{NotWhole, FloatForm}
use Rattle.tclv_text.proofs.NumbersLifted.{radix_small, whole_high}
use Rattle.tclv_text.proofs.AsciiLemmas.{HasHigh, lifted, tail_high, take_high, back_ends}
use Rattle.tclv_text.proofs.Lifted.{high_no_space}
use Rattle.tclv_text.specs.Texts.{IsText}
use Rattle.tclv_text.specs.Indices.{base, before, behind, moved, cut, place, is_sign, is_lead, sign_place}

-- Digits and letters: a unit below them ends a number.
digits_low : (r n : ℕ) (cs : List ℕ) (i : ℕ) → r ≤ 36 → i < length cs → get_or cs i 0 < 48 → digits_after r n cs ≡ None
digits_low r n [] i l h g = absurd (omega arith)
digits_low r n (c ∷ cs) zero l h g = let e : is_digit c r ≡ false = grind (arith, nat_tests) in cond-false _ _ _ e
digits_low r n (c ∷ cs) (suc i) l h g = elim (is_digit c r) as (λ b. cond b (digits_after r (n * r + digit_value c) cs) None ≡ None) [ true ↦ digits_low r (n * r + digit_value c) cs i l (omega arith) g | false ↦ refl ]

number_low : (r : ℕ) (cs : List ℕ) (i : ℕ) → r ≤ 36 → i < length cs → get_or cs i 0 < 48 → number r cs ≡ None
number_low r [] i l h g = refl
number_low r (c ∷ cs) i l h g = digits_low r 0 (c ∷ cs) i l h g

in_low : (o : Option ℕ) (cs : List ℕ) (i : ℕ) → IfSome o (λ r. r ≤ 36) → i < length cs → get_or cs i 0 < 48 → number_in o cs ≡ None
in_low None cs i l h g = refl
in_low (Some r) cs i l h g = number_low r cs i l h g

based_low : (ds : List ℕ) (i : ℕ) → i < length ds → get_or ds i 0 < 48 → based_number ds ≡ None
based_low [] i h g = refl
based_low (z ∷ []) i h g = refl
based_low (z ∷ m ∷ ds) zero h g = cond-false _ _ _ (ne_eqb z 48 (λ e. omega arith))
based_low (z ∷ m ∷ ds) (suc zero) h g = let e : radix_of m ≡ None = grind (arith, nat_tests) in elim (eqb z 48) as (λ b. cond b (number_in (radix_of m) ds) None ≡ None) [ true ↦ ap (λ o. number_in o ds) e | false ↦ refl ]
based_low (z ∷ m ∷ ds) (suc (suc i)) h g = elim (eqb z 48) as (λ b. cond b (number_in (radix_of m) ds) None ≡ None) [ true ↦ in_low (radix_of m) ds i (radix_small m) (omega arith) g | false ↦ refl ]

unsigned_low : (ds : List ℕ) (i : ℕ) → i < length ds → get_or ds i 0 < 48 → unsigned ds ≡ None
unfolding unsigned
unsigned_low ds i h g = ap (λ o. option_or o (based_number ds)) (number_low 10 ds i (omega arith) h g) ∙ based_low ds i h g

unsigned_empty : unsigned [] ≡ None
unfolding unsigned
unsigned_empty = refl

some_none : {A : Type 0} {x : A} {o : Option A} → o ≡ Some x → o ≡ None → ⊥
some_none {A} {x} {o} e f = let q : Some x ≡ None = sym e ∙ f in cc

-- an unsigned number begins with a digit, and has no sign in it
unsigned_at : (ds : List ℕ) (m i : ℕ) → unsigned ds ≡ Some m → i < length ds → 48 ≤ get_or ds i 0
unsigned_at ds m i e h = ⊎_elim (λ (l : get_or ds i 0 < 48). absurd (some_none e (unsigned_low ds i h l))) (λ (g : 48 ≤ get_or ds i 0). g) (cases_lt (get_or ds i 0) 48)

unsigned_some : (ds : List ℕ) (m : ℕ) → unsigned ds ≡ Some m → 0 < length ds
unsigned_some [] m e = absurd (some_none e unsigned_empty)
unsigned_some (c ∷ cs) m e = omega arith

-- The first sign behind the text's white space and signs is behind this text.
pub record HasBody (u : List ℕ) : Type 0 where
  pub at : ℕ
  pub inside : at < length u
  pub lead : (k : ℕ) → k < at → is_lead (get_or u k 0) ≡ true
  pub body : is_lead (get_or u at 0) ≡ false
  pub behind : (k : ℕ) → at ≤ k → k < length u → is_sign (get_or u k 0) ≡ false

-- one sign or none in front
record Front (b : List ℕ) : Type 0 where
  n : ℕ
  is : without_sign b ≡ drop n b
  signs : (k : ℕ) → k < n → is_sign (get_or b k 0) ≡ true

front : (b : List ℕ) → Front b
front [] = record { n = 0; is = refl; signs = λ k h. absurd (omega arith) }
front (c ∷ cs) =
    ⊎_elim
    (λ (e : is_sign c ≡ true). record { n = 1; is = cond-true _ _ _ e; signs = λ k h. let z : 0 ≡ k = omega arith in subst (λ j. is_sign (get_or (c ∷ cs) j 0) ≡ true) z e })
    (λ (e : is_sign c ≡ false). record { n = 0; is = cond-false _ _ _ e; signs = λ k h. absurd (omega arith) })
    (cases_Bool (is_sign c))

digit_no_lead : (c : ℕ) → 48 ≤ c → is_lead c ≡ false
digit_no_lead c h = grind (arith, nat_tests)

digit_no_sign : (c : ℕ) → 48 ≤ c → is_sign c ≡ false
digit_no_sign c h = grind (arith, nat_tests)

space_no_sign : (c : ℕ) → is_space c ≡ true → is_sign c ≡ false
space_no_sign c h = grind (arith, nat_tests)

-- the units of the white space at the end
back_passes : (p : ℕ → Bool) (xs : List ℕ) (k : ℕ) → length xs - suffix_len p xs ≤ k → k < length xs → p (get_or xs k 0) ≡ true
back_passes p xs k h l =
    let j = length xs - 1 - k in
    let back : length xs - 1 - j ≡ k = omega arith in
    ap p (sym (get_or-reverse xs j 0 (omega arith) ∙ ap (λ m. get_or xs m 0) back)) ∙ prefix_len_passes p (reverse xs) j 0 (omega arith)

-- A text is white space, a sign or none, an unsigned number and white space.
module _ (u : List ℕ) (s e n m : ℕ) (some : unsigned (drop n (take e (drop s u))) ≡ Some m) where
  long : (n < e) × (s + n < length u)
  long =
      let d = unsigned_some (drop n (take e (drop s u))) m some in
      let l : 0 < min e (length u - s) - n = simp (length-drop, length-take) at d in
      (omega arith, omega arith)

  read : (i : ℕ) → n + i < e → get_or (drop n (take e (drop s u))) i 0 ≡ get_or u (s + (n + i)) 0
  read i h = get_or-drop n (take e (drop s u)) i 0 ∙ get_or-take e (drop s u) (n + i) 0 h ∙ get_or-drop s u (n + i) 0

  digit : (i : ℕ) → n + i < e → s + (n + i) < length u → 48 ≤ get_or u (s + (n + i)) 0
  digit i h l = subst (λ x. 48 ≤ x) (read i h) (unsigned_at (drop n (take e (drop s u))) m i some (simp (length-drop, length-take) (omega arith)))

  body_of : ((k : ℕ) → k < s → is_space (get_or u k 0) ≡ true) → ((k : ℕ) → s + e ≤ k → k < length u → is_space (get_or u k 0) ≡ true) → ((k : ℕ) → k < n → is_sign (get_or (take e (drop s u)) k 0) ≡ true) → HasBody u
  body_of front back signs = record {
    at = s + n;
    inside = long.1;
    lead = λ k h. ⊎_elim (λ (l : k < s). or_left _ _ (front k l)) (λ (g : s ≤ k).
        let i = k - s in
        let j : s + i ≡ k = omega arith in
        let below : i < e = omega (arith, long.0) in
        let q : get_or (take e (drop s u)) i 0 ≡ get_or u k 0 = get_or-take e (drop s u) i 0 below ∙ get_or-drop s u i 0 ∙ ap (λ x. get_or u x 0) j in
        or_right (is_space (get_or u k 0)) _ (subst (λ x. is_sign x ≡ true) q (signs i (omega arith)))) (cases_lt k s);
    body = let z : s + (n + 0) ≡ s + n = omega arith in digit_no_lead _ (subst (λ x. 48 ≤ get_or u x 0) z (digit 0 (omega (arith, long.0)) (omega (arith, long.1))));
    behind = λ k h l. ⊎_elim (λ (b : k < s + e).
        let j : s + (n + (k - s - n)) ≡ k = omega arith in
        digit_no_sign _ (subst (λ x. 48 ≤ get_or u x 0) j (digit (k - s - n) (omega arith) (omega arith)))) (λ (g : s + e ≤ k). space_no_sign (get_or u k 0) (back k g l)) (cases_lt k (s + e));
  }

-- a whole number has a body
sized : (float minus : Bool) (o : Option ℕ) (z : ℤ) → in_range float minus o ≡ Ok z → (m : ℕ) × (o ≡ Some m)
sized float minus None z e = let q : Err (cond float FloatForm NotWhole) ≡ Ok z = e in absurd (cc)
sized float minus (Some m) z e = (m, refl)

whole_body : (u : List ℕ) (z : ℤ) → whole u ≡ Ok z → HasBody u
unfolding whole trim
whole_body u z e =
    let s = prefix_len is_space u in
    let w = drop s u in
    let l = length w - suffix_len is_space w in
    let f = front (take l w) in
    let m = sized (is_float_form (without_sign (take l w))) (is_minus (take l w)) (unsigned (without_sign (take l w))) z e in
    body_of u s l f.n m.0 (ap unsigned (sym f.is) ∙ m.1)
    (λ k h. prefix_len_passes is_space u k 0 h)
    (λ k h i.
    let j : s + (k - s) ≡ k = omega arith in
    ap is_space (sym (get_or-drop s u (k - s) 0 ∙ ap (λ x. get_or u x 0) j)) ∙ back_passes is_space w (k - s) (omega arith) (omega (arith, length-drop s u)))
    f.signs

end_behind : (k : ℕ) → k < 3 → is_sign (get_or (codes "end") k 0) ≡ false
end_behind zero h = refl
end_behind (suc zero) h = refl
end_behind (suc (suc zero)) h = refl
end_behind (suc (suc (suc k))) h = absurd (omega arith)

-- `end`, and white space behind it
end_body : (u : List ℕ) → trim_end u ≡ codes "end" → HasBody u
end_body u e =
    let n = length u - suffix_len is_space u in
    let long : n ≡ 3 = sym (length-take-le n u (omega arith)) ∙ ap length e in
    let same : (k : ℕ) → k < n → get_or u k 0 ≡ get_or (codes "end") k 0 = λ k h. sym (get_or-take n u k 0 h) ∙ ap (λ x. get_or x k 0) e in
    record {
      at = 0;
      inside = omega arith;
      lead = λ k h. absurd (omega arith);
      body = ap is_lead (same 0 (omega arith));
      behind = λ k g h. ⊎_elim (λ (l : k < n). ap is_sign (same k l) ∙ end_behind k (omega arith)) (λ (m : n ≤ k). space_no_sign (get_or u k 0) (back_passes is_space u k m h)) (cases_lt k n);
    }

pub base_body : (len : ℕ) (u : List ℕ) (a : ℤ) → base len u ≡ Some a → HasBody u
base_body len u a e =
    ⊎_elim
    (λ (q : bytes_eq (trim_end u) (codes "end") ≡ true). end_body u ((bytes_eq-Decides (trim_end u) (codes "end")).0 q))
    (λ (q : bytes_eq (trim_end u) (codes "end") ≡ false). ok_body (whole u) refl (sym (cond-false _ _ _ q) ∙ e))
    (cases_Bool (bytes_eq (trim_end u) (codes "end")))
  where
    ok_body : (r : Result ℤ WholeFault) → whole u ≡ r → result_ok r ≡ Some a → HasBody u
    ok_body (Ok z) w h = whole_body u z w
    ok_body (Err f) w h = let n : None ≡ Some a = h in absurd (cc)

-- what may stand before a sign and behind it
kept_some : (b : Bool) (o : Option ℤ) (a : ℤ) → cond b o None ≡ Some a → o ≡ Some a
kept_some true o a e = e
kept_some false o a e = absurd (cc)

kept_none : (b : Bool) (o : Option ℤ) → o ≡ None → cond b o None ≡ None
kept_none true o e = e
kept_none false o e = refl

pub before_body : (len : ℕ) (u : List ℕ) (a : ℤ) → before len u ≡ Some a → HasBody u
before_body len u a e = base_body len u a (kept_some (eqb (suffix_len is_space u) 0) (base len u) a e)

-- a sign behind such a text is the place to cut
pub sign_behind : (u v : List ℕ) (c : ℕ) → HasBody u → is_sign c ≡ true → sign_place (u ++ c ∷ v) ≡ length u
unfolding sign_place
sign_behind u v c b e =
    let t = u ++ c ∷ v in
    let long : length t ≡ length u + suc (length v) = length-append u (c ∷ v) in
    let same = λ (k : ℕ) (h : k < length u). get_or_append_left u (c ∷ v) 0 k h in
    let lead : prefix_len is_lead t ≡ b.at = prefix_len_is is_lead t b.at 0 (omega (arith, b.inside))
    (λ k h. ap is_lead (same k (omega (arith, b.inside))) ∙ b.lead k h)
    (λ h. ap is_lead (same b.at b.inside) ∙ b.body) in
    let n = length u - b.at in
    let at : b.at + n ≡ length u = omega (arith, b.inside) in
    let more : prefix_len (λ x. not (is_sign x)) (drop b.at t) ≡ n = prefix_len_is (λ x. not (is_sign x)) (drop b.at t) n 0 (omega (arith, length-drop b.at t))
    (λ k h. not_from_false _ (ap is_sign (get_or-drop b.at t k 0 ∙ same (b.at + k) (omega arith)) ∙ b.behind (b.at + k) (omega arith) (omega arith)))
    (λ h. not_from_true _ (ap is_sign (get_or-drop b.at t n 0 ∙ ap (λ k. get_or t k 0) at ∙ get_or-append_seam u c v 0) ∙ e)) in
    ap (λ k. k + prefix_len (λ x. not (is_sign x)) (drop k t)) lead ∙ ap (λ k. b.at + k) more ∙ at

pub no_sign_none : (a b : ℤ) (c : ℕ) → is_sign c ≡ false → moved (Some a) c (Some b) ≡ None
no_sign_none a b c e = let p = or_parts (eqb c 43) (eqb c 45) e in cond-false _ _ _ p.0 ∙ cond-false _ _ _ p.1

not_moved : (o w : Option ℤ) (c : ℕ) → ((a : ℤ) → o ≡ Some a → is_sign c ≡ true → ⊥) → moved o c w ≡ None
not_moved None w c h = refl
not_moved (Some a) None c h = refl
not_moved (Some a) (Some b) c h = no_sign_none a b c (false_from_ne_true (is_sign c) (h a refl))

-- no other character is one
no_cut_at : (len : ℕ) (u v : List ℕ) (c : ℕ) (w : Option ℤ) → (sign_place (u ++ c ∷ v) ≡ length u → ⊥) → moved (before len u) c w ≡ None
no_cut_at len u v c w h = not_moved (before len u) w c (λ a e s. h (sign_behind u v c (before_body len u a e) s))

front_more : (u : List ℕ) (c : ℕ) (v : List ℕ) → (u ++ c ∷ []) ++ v ≡ u ++ c ∷ v
front_more u c v = append_assoc u (c ∷ []) v

length_more : (u : List ℕ) (c : ℕ) → length (u ++ c ∷ []) ≡ length u + 1
length_more u c = length-append u (c ∷ [])

-- nothing is cut where the place lies in the front, or nowhere
cut_none : (len p : ℕ) (u v : List ℕ) → sign_place (u ++ v) ≡ p → (p < length u) ⊎ (length u + length v ≤ p) → cut len u v ≡ None
cut_none len p u [] e h = refl
cut_none len p u (c ∷ v) e h =
    let here = no_cut_at len u v c (behind v) (λ q. ⊎_elim (λ (l : p < length u). omega arith) (λ (g : length u + suc (length v) ≤ p). omega arith) h) in
    let more = length_more u c in
    ap (λ o. option_or o (cut len (u ++ c ∷ []) v)) here
    ∙ cut_none len p (u ++ c ∷ []) v (ap sign_place (front_more u c v) ∙ e) (⊎_elim (λ (l : p < length u). inl (omega arith)) (λ (g : length u + suc (length v) ≤ p). inr (omega arith)) h)

or_none : (o : Option ℤ) → option_or o None ≡ o
or_none None = refl
or_none (Some a) = refl

pub cut_some : (len : ℕ) (u a b : List ℕ) (c : ℕ) → sign_place (u ++ (a ++ c ∷ b)) ≡ length u + length a → cut len u (a ++ c ∷ b) ≡ moved (before len (u ++ a)) c (behind b)
cut_some len u [] b c e =
    let m = moved (before len u) c (behind b) in
    let more = length_more u c in
    let rest = cut_none len (length u) (u ++ c ∷ []) b (ap sign_place (front_more u c b) ∙ e ∙ omega arith) (inl (omega arith)) in
    ap (option_or m) rest ∙ or_none m ∙ ap (λ x. moved (before len x) c (behind b)) (sym (append-nil u))
cut_some len u (x ∷ a) b c e =
    let here = no_cut_at len u (a ++ c ∷ b) x (behind (a ++ c ∷ b)) (λ q. omega arith) in
    let more = length_more u x in
    ap (λ o. option_or o (cut len (u ++ x ∷ []) (a ++ c ∷ b))) here
    ∙ cut_some len (u ++ x ∷ []) a b c (ap sign_place (front_more u x (a ++ c ∷ b)) ∙ e ∙ omega arith)
    ∙ ap (λ y. moved (before len y) c (behind b)) (front_more u x a)

-- the text has no place to cut it
pub no_cut : (len n : ℕ) (t : List ℕ) → n ≡ sign_place t → n ≡ length t → None ≡ cut len [] t
no_cut len n t e h = sym (cut_none len n [] t (sym e) (inr (omega arith)))

-- it is cut at that place
pub cut_here : (len n : ℕ) (t : List ℕ) (o w : Option ℤ) → n ≡ sign_place t → n < length t → o ≡ before len (take n t) → w ≡ behind (take (length t - (n + 1)) (drop (n + 1) t)) →
    moved o (get_or t n 0) w ≡ cut len [] t
cut_here len n t o w e l p q =
    let rest = drop (n + 1) t in
    let all : take (length t - (n + 1)) rest ≡ rest = take_all (length t - (n + 1)) rest (omega (arith, length-drop (n + 1) t)) in
    let split : take n t ++ get_or t n 0 ∷ rest ≡ t = ap (λ x. take n t ++ x) (sym (drop-cons t n 0 l ∙ ap (λ k. get_or t n 0 ∷ drop k t) (sym (add-one n)))) ∙ take-append-drop n t in
    let long : length (take n t) ≡ n = length-take n t ∙ omega arith in
    let whole_cut = cut_some len [] (take n t) rest (get_or t n 0) (ap sign_place split ∙ sym e ∙ omega (arith, long)) in
    ap (λ x. moved x (get_or t n 0) w) p ∙ ap (moved (before len (take n t)) (get_or t n 0)) (q ∙ ap behind all) ∙ sym whole_cut ∙ ap (cut len []) split

-- A text with a character that is not ASCII is no place.
low_ends : (k : ℕ) → k < 3 → get_or (codes "end") k 0 < 128
low_ends zero h = lit< tt
low_ends (suc zero) h = lit< tt
low_ends (suc (suc zero)) h = lit< tt
low_ends (suc (suc (suc k))) h = absurd (omega arith)

low_end : HasHigh (codes "end") → ⊥
low_end h = omega (arith, h.inside, h.high, low_ends h.at h.inside)

high_no_sign : (c : ℕ) → 128 ≤ c → is_sign c ≡ false
high_no_sign c h = grind (arith, nat_tests)

no_end : (t : List ℕ) → HasHigh t → bytes_eq (trim_end t) (codes "end") ≡ false
no_end t h =
    let high : HasHigh (trim_end t) = take_high _ t h (back_ends is_space high_no_space t h) in
    false_from_ne_true _ (λ e. low_end (subst HasHigh ((bytes_eq-Decides (trim_end t) (codes "end")).0 e) high))

base_high : (len : ℕ) (t : List ℕ) → HasHigh t → base len t ≡ None
base_high len t h = cond-false _ _ _ (no_end t h) ∙ ap result_ok (whole_high t h)

before_high : (len : ℕ) (t : List ℕ) → HasHigh t → before len t ≡ None
before_high len t h = kept_none (eqb (suffix_len is_space t) 0) (base len t) (base_high len t h)

behind_high : (t : List ℕ) → HasHigh t → behind t ≡ None
behind_high t h = kept_none (eqb (prefix_len is_space t) 0) (result_ok (whole t)) (ap result_ok (whole_high t h))

moved_none : (o : Option ℤ) (c : ℕ) → moved o c None ≡ None
moved_none None c = refl
moved_none (Some a) c = refl

-- the character that is not ASCII stands before the sign, at it or behind it
split_high : (len : ℕ) (u v : List ℕ) (c : ℕ) → HasHigh (u ++ c ∷ v) → moved (before len u) c (behind v) ≡ None
split_high len u v c h =
    let here = get_or (u ++ c ∷ v) h.at 0 in
    let w = behind v in
    ⊎_elim
    (λ (l : h.at < length u). ap (λ o. moved o c w) (before_high len u (record { at = h.at; inside = l; high = subst (λ x. 128 ≤ x) (get_or_append_left u (c ∷ v) 0 h.at l) h.high })))
    (λ (g : length u ≤ h.at).
    let n = h.at - length u in
    let j : length u + n ≡ h.at = omega arith in
    let q : get_or (u ++ c ∷ v) h.at 0 ≡ get_or (c ∷ v) n 0 = ap (λ k. get_or (u ++ c ∷ v) k 0) (sym j) ∙ get_or-append-add u (c ∷ v) n 0 in
    let rest : HasHigh (c ∷ v) = record { at = n; inside = omega (arith, length-append u (c ∷ v), h.inside); high = subst (λ x. 128 ≤ x) q h.high } in
    ⊎_elim
    (λ (l : c < 128). ap (moved (before len u) c) (behind_high v (tail_high c v l rest)) ∙ moved_none (before len u) c)
    (λ (k : 128 ≤ c). not_moved (before len u) w c (λ a e s. true≢false (sym s ∙ high_no_sign c k)))
    (cases_lt c 128))
    (cases_lt h.at (length u))

cut_high : (len : ℕ) (u v : List ℕ) → HasHigh (u ++ v) → cut len u v ≡ None
cut_high len u [] h = refl
cut_high len u (c ∷ v) h =
    let rest = cut_high len (u ++ c ∷ []) v (subst HasHigh (sym (front_more u c v)) h) in
    let here : moved (before len u) c (behind v) ≡ None = split_high len u v c h in
    ap (λ o. option_or o (cut len (u ++ c ∷ []) v)) here ∙ rest

place_high : (len : ℕ) (t : List ℕ) → HasHigh t → place t len ≡ None
unfolding place
place_high len t h = ap (λ o. option_or o (cut len [] t)) (base_high len t h) ∙ cut_high len [] t h

pub place_lifted : (len : ℕ) (bs : List ℕ) → IsText bs → place bs len ≡ place (chars bs) len
place_lifted len = lifted (λ t. place t len) None (place_high len)

-- sums and differences in 128 bits
pub small_sum : (a b : ℤ) → neg_ℤ (pos (2 ^ 64)) ≤ℤ a → a ≤ℤ pos (2 ^ 64) → neg_ℤ (pos (2 ^ 64)) ≤ℤ b → b ≤ℤ pos (2 ^ 64) → to_z w128 (of_z w128 (to_z w128 (of_z w128 a) +ℤ to_z w128 (of_z w128 b))) ≡ a +ℤ b
small_sum a b la ha lb hb = omega (arith, ints)

pub small_difference : (a b : ℤ) → neg_ℤ (pos (2 ^ 64)) ≤ℤ a → a ≤ℤ pos (2 ^ 64) → neg_ℤ (pos (2 ^ 64)) ≤ℤ b → b ≤ℤ pos (2 ^ 64) → to_z w128 (of_z w128 (to_z w128 (of_z w128 a) -ℤ to_z w128 (of_z w128 b))) ≡ a -ℤ b
small_difference a b la ha lb hb = omega (arith, ints)
