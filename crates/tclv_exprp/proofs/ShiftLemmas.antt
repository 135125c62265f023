-- Shifts.
use Rattle.std.proofs.Common.{◌≡◌, ℕ, zero, suc, ◌+◌, ◌*◌, ◌/◌, ◌%◌, ◌^◌, ◌<◌, ◌≤◌, true, false, ℤ, pos, negsuc, neg_ℤ, ◌*ℤ◌, Option, Some, None, Ok, Err, sym, ap, ap₂, subst, ◌∙◌, refl, arith, ⊎_elim, w64, to_z, of_z, SFits, true≢false, pow_mono, pow_pos, min, add-one}
use Rattle.std.specs.Prelude.{int_lt, unsigned_abs}
use Rattle.std.specs.Option.{SomeIff}
use Rattle.std.specs.Int.{div_ceil}
use Rattle.std.specs.Int.Signed.{shr_z, mag_shr}
use Rattle.std.proofs.Math.Nat.{div-add-mod', mod-lt, mod-eq_of_lt, suc-mod, mod_self, div-eq_of_lt-le, div-eq_of_eq-mul_left, div-eq_of_lt, mul-le-mul, suc-mul}
use Rattle.std.proofs.lemmas.Bool.{cases_lt}
use Rattle.std.proofs.lemmas.Int.{to_z-of_z}
use Rattle.tclv_exprp.specs.declared.operators.OpFault.TheVariants.{TooLarge, NegativeShift}
use Rattle.tclv_exprp.specs.Operators.{Answer, fit, sized, shift_left, shift_left_by, shift_right, shift_right_by}
use Rattle.tclv_exprp.proofs.IntegerLemmas.{not_below, side, side_is}
use Rattle.tclv_exprp.proofs.PowerLemmas.{large}

pub left_negative : (a b : ℤ) → int_lt b (pos 0) ≡ true → Err NegativeShift ≡ shift_left a b
unfolding shift_left
left_negative a (pos m) h = absurd (true≢false (sym h ∙ not_below m))
left_negative a (negsuc m) h = refl

pub left_above : (a b : ℤ) (n : ℕ) → int_lt b (pos 0) ≡ false → n ≡ unsigned_abs b → shift_left_by a n ≡ shift_left a b
unfolding shift_left
left_above a (pos m) n h e = ap (shift_left_by a) e
left_above a (negsuc m) n h e = absurd (true≢false h)

pub right_negative : (a b : ℤ) → int_lt b (pos 0) ≡ true → Err NegativeShift ≡ shift_right a b
unfolding shift_right
right_negative a (pos m) h = absurd (true≢false (sym h ∙ not_below m))
right_negative a (negsuc m) h = refl

pub right_above : (a b : ℤ) (n : ℕ) → int_lt b (pos 0) ≡ false → n ≡ unsigned_abs b → Ok (shift_right_by a n) ≡ shift_right a b
unfolding shift_right
right_above a (pos m) n h e = ap (λ k. let x : Answer = Ok (shift_right_by a k) in x) e
right_above a (negsuc m) n h e = absurd (true≢false h)

-- ---- to the left

shifted : (a : ℤ) (m : ℕ) → sized (side a) (unsigned_abs a * m) ≡ a *ℤ pos m
shifted (pos x) m = refl
shifted (negsuc x) m = refl

pub left_is : (a : ℤ) (n x y z : ℕ) → x ≡ unsigned_abs a → y ≡ 2 ^ n → x * y ≡ z → fit (sized (int_lt a (pos 0)) z) ≡ shift_left_by a n
unfolding shift_left_by
left_is a n x y z p q e = ap₂ (λ s k. fit (sized s k)) (side_is a) (sym e ∙ ap₂ (λ i j. i * j) p q) ∙ ap fit (shifted a (2 ^ n))

left_big : (a : ℤ) (n : ℕ) → 2 ^ 64 ≤ unsigned_abs a * 2 ^ n → Err TooLarge ≡ shift_left_by a n
unfolding shift_left_by
left_big a n h = sym (ap fit (sym (shifted a (2 ^ n))) ∙ large (side a) (unsigned_abs a * 2 ^ n) h)

pub left_none : (a : ℤ) (n x y : ℕ) (o : Option ℕ) → x ≡ unsigned_abs a → y ≡ 2 ^ n → o ≡ None → SomeIff o (x * y < 2 ^ 64) (x * y) → Err TooLarge ≡ shift_left_by a n
left_none a n x y o p q e h =
    let no : x * y < 2 ^ 64 → ⊥ = subst (λ u. SomeIff u (x * y < 2 ^ 64) (x * y)) e h in
    left_big a n (subst (λ k. 2 ^ 64 ≤ k) (ap₂ (λ i j. i * j) p q) (⊎_elim (λ (l : x * y < 2 ^ 64). absurd (no l)) (λ (g : 2 ^ 64 ≤ x * y). g) (cases_lt (x * y) (2 ^ 64))))

pub left_some : (x y z : ℕ) (o : Option ℕ) → o ≡ Some z → SomeIff o (x * y < 2 ^ 64) (x * y) → x * y ≡ z
left_some x y z o e h = sym (subst (λ u. SomeIff u (x * y < 2 ^ 64) (x * y)) e h).1

pub left_nothing : (a : ℤ) (n : ℕ) → pos 0 ≡ a → Ok (pos 0) ≡ shift_left_by a n
unfolding shift_left_by fit
left_nothing a n e = subst (λ b. Ok (pos 0) ≡ shift_left_by b n) e (ap (λ k. fit (pos k)) (let z : 0 ≡ 0 * 2 ^ n = omega arith in z))

some_size : (a : ℤ) → (of_z w64 a ≡ 0 → ⊥) → 1 ≤ unsigned_abs a
some_size (pos zero) h = absurd (h refl)
some_size (pos (suc x)) h = omega arith
some_size (negsuc x) h = omega arith

pub left_far : (a : ℤ) (n : ℕ) → 63 < n → (of_z w64 a ≡ 0 → ⊥) → Err TooLarge ≡ shift_left_by a n
left_far a n h z = left_big a n (let m : 64 ≤ n = omega arith in omega (arith, mul-le-mul (some_size a z) (pow_mono m)))

-- ---- to the right

ceil_suc : (x m : ℕ) → 0 < m → div_ceil (suc x) m ≡ suc (x / m)
ceil_suc x m p =
    let e = div-add-mod' x m in
    let l = mod-lt x p in
    ⊎_elim
    (λ (h : suc (x % m) < m).
    let q : suc x / m ≡ x / m = div-eq_of_lt-le m (omega arith) (omega (arith, suc-mul (x / m) m, ap (λ k. k * m) (add-one (x / m)))) in
    let r : suc x % m ≡ suc (x % m) = suc-mod x m ∙ mod-eq_of_lt h in
    ap₂ (λ i j. i + min 1 j) q r ∙ (let s : x / m + min 1 (suc (x % m)) ≡ suc (x / m) = omega arith in s))
    (λ (h : m ≤ suc (x % m)).
    let full : suc (x % m) ≡ m = omega arith in
    let q : suc x / m ≡ suc (x / m) = div-eq_of_eq-mul_left p (omega (arith, suc-mul (x / m) m)) in
    let r : suc x % m ≡ 0 = suc-mod x m ∙ ap (λ k. k % m) full ∙ mod_self m in
    ap₂ (λ i j. i + min 1 j) q r ∙ (let s : suc (x / m) + min 1 0 ≡ suc (x / m) = omega arith in s))
    (cases_lt (suc (x % m)) m)

pub right_is : (a : ℤ) (n : ℕ) → shr_z a (2 ^ n) ≡ shift_right_by a n
unfolding shift_right_by
right_is (pos x) n = refl
right_is (negsuc x) n = sym (ap (λ k. neg_ℤ (pos k)) (ceil_suc x (2 ^ n) (pow_pos n)))

pub right_real : (a : ℤ) (n : ℕ) → SFits w64 a → to_z w64 (of_z w64 (shr_z a (2 ^ n))) ≡ shift_right_by a n
right_real a n f = to_z-of_z w64 (shr_z a (2 ^ n)) (record { sfits = omega (arith, mag_shr a (2 ^ n), f.sfits) }) ∙ right_is a n

gone : (x n : ℕ) → x < 2 ^ 63 → 63 < n → x / 2 ^ n ≡ 0
gone x n h k = div-eq_of_lt (let m : 63 ≤ n = omega arith in omega (arith, pow_mono m))

pub right_far_below : (a : ℤ) (n : ℕ) → SFits w64 a → 63 < n → int_lt a (pos 0) ≡ true → negsuc 0 ≡ shift_right_by a n
right_far_below (pos x) n f h e = absurd (true≢false (sym e ∙ not_below x))
right_far_below (negsuc x) n f h e = sym (sym (right_is (negsuc x) n) ∙ ap negsuc (gone x n f.sfits h))

pub right_far_above : (a : ℤ) (n : ℕ) → SFits w64 a → 63 < n → int_lt a (pos 0) ≡ false → pos 0 ≡ shift_right_by a n
right_far_above (pos x) n f h e = sym (sym (right_is (pos x) n) ∙ ap pos (gone x n f.sfits h))
right_far_above (negsuc x) n f h e = absurd (true≢false e)
