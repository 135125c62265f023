-- Numbers of 64 bits.
use Rattle.std.proofs.Common.{◌≡◌, ℕ, ◌/◌, ◌%◌, ◌^◌, ◌<◌, ◌≤◌, true, false, Bool, ℤ, pos, negsuc, neg_ℤ, ◌-ℤ◌, ◌+ℤ◌, Option, Some, None, Ok, Err, sym, ap, ap₂, subst, subst₂, ◌∙◌, refl, arith, ⊎_elim, w64, ltb, to_z, of_z, SFits, true≢false}
use mathlib.Core.Bool.{beq}
use Rattle.std.specs.Prelude.{int_lt, unsigned_abs}
use Rattle.std.specs.Option.{ok_or, SomeIff}
use Rattle.std.specs.Int.{div_ceil}
use Rattle.std.specs.Int.RustNames.{FitsSigned}
use Rattle.std.proofs.lemmas.Int.{ints, to_z-of_z}
use Rattle.std.proofs.lemmas.Bool.{cond-true, cond-false, lt-ltb, le-ltb, cases_lt, ne_eqb, eq-eqb}
use Rattle.tclv_exprp.specs.declared.operators.OpFault.TheVariants.{DivideByZero, TooLarge}
use Rattle.tclv_exprp.specs.Operators.{fit, divide, remainder, quotient, left, rest, sized}

pub fit_some : (z : ℤ) → FitsSigned w64 z → fit z ≡ Ok z
unfolding fit
fit_some (pos n) h = cond-true _ _ _ (lt-ltb _ _ h.sfits)
fit_some (negsuc n) h = cond-true _ _ _ (lt-ltb _ _ h.sfits)

pub fit_none : (z : ℤ) → (FitsSigned w64 z → ⊥) → fit z ≡ Err TooLarge
unfolding fit
fit_none (pos n) h = ⊎_elim (λ (l : n < 2 ^ 63). absurd (h (record { sfits = l }))) (λ (g : 2 ^ 63 ≤ n). cond-false _ _ _ (le-ltb _ _ g)) (cases_lt n (2 ^ 63))
fit_none (negsuc n) h = ⊎_elim (λ (l : n < 2 ^ 63). absurd (h (record { sfits = l }))) (λ (g : 2 ^ 63 ≤ n). cond-false _ _ _ (le-ltb _ _ g)) (cases_lt n (2 ^ 63))

pub fit_of : (o : Option ℤ) (z : ℤ) → SomeIff o (FitsSigned w64 z) z → ok_or o TooLarge ≡ fit z
fit_of None z h = sym (fit_none z h)
fit_of (Some x) z h = ap Ok h.1 ∙ sym (fit_some z h.0)

-- a number is what its bits are read as
pub real1 : (P : ℤ → Type 0) (a : ℤ) → SFits w64 a → P (to_z w64 (of_z w64 a)) → P a
real1 P a f p = subst P (to_z-of_z w64 a f) p

pub real2 : (P : ℤ → ℤ → Type 0) (a b : ℤ) → SFits w64 a → SFits w64 b → P (to_z w64 (of_z w64 a)) (to_z w64 (of_z w64 b)) → P a b
real2 P a b f g p = subst₂ P (to_z-of_z w64 a f) (to_z-of_z w64 b g) p

pub zero_less : (n : ℕ) → pos 0 -ℤ pos n ≡ neg_ℤ (pos n)
zero_less n = omega (arith, ints)

pub zero_more : (n : ℕ) → pos 0 +ℤ pos n ≡ pos n
zero_more n = omega (arith, ints)

-- ---- division

pub divide_zero : (a b : ℤ) (y : ℕ) → y ≡ unsigned_abs b → y ≡ 0 → Err DivideByZero ≡ divide a b
unfolding divide
divide_zero a b y e z = sym (cond-true _ _ _ (eq-eqb _ _ (sym e ∙ z)))

divided : (a b : ℤ) (y : ℕ) → y ≡ unsigned_abs b → (y ≡ 0 → ⊥) → divide a b ≡ fit (quotient a b)
unfolding divide
divided a b y e h = cond-false _ _ _ (ne_eqb _ _ (λ z. h (e ∙ z)))

pub not_below : (n : ℕ) → ltb n 0 ≡ false
not_below n = le-ltb n 0 (omega arith)

abbrev pub side : ℤ → Bool
side (pos n) = false
side (negsuc n) = true

pub side_is : (z : ℤ) → int_lt z (pos 0) ≡ side z
side_is (pos n) = not_below n
side_is (negsuc n) = refl

sides : (a b : ℤ) → beq (int_lt a (pos 0)) (int_lt b (pos 0)) ≡ beq (side a) (side b)
sides a b = ap₂ beq (side_is a) (side_is b)

quotient_same : (a b : ℤ) → beq (side a) (side b) ≡ true → quotient a b ≡ pos (unsigned_abs a / unsigned_abs b)
quotient_same (pos m) (pos n) h = refl
quotient_same (pos m) (negsuc n) h = absurd (true≢false (sym h))
quotient_same (negsuc m) (pos n) h = absurd (true≢false (sym h))
quotient_same (negsuc m) (negsuc n) h = refl

quotient_apart : (a b : ℤ) → beq (side a) (side b) ≡ false → quotient a b ≡ neg_ℤ (pos (div_ceil (unsigned_abs a) (unsigned_abs b)))
quotient_apart (pos m) (pos n) h = absurd (true≢false h)
quotient_apart (pos m) (negsuc n) h = refl
quotient_apart (negsuc m) (pos n) h = refl
quotient_apart (negsuc m) (negsuc n) h = absurd (true≢false h)

pub divide_same : (a b : ℤ) (x y : ℕ) → x ≡ unsigned_abs a → y ≡ unsigned_abs b → (y ≡ 0 → ⊥) → beq (int_lt a (pos 0)) (int_lt b (pos 0)) ≡ true → fit (pos (x / y)) ≡ divide a b
divide_same a b x y p q n s = ap₂ (λ (i j : ℕ). fit (pos (i / j))) p q ∙ sym (divided a b y q n ∙ ap fit (quotient_same a b (sym (sides a b) ∙ s)))

pub divide_apart : (a b : ℤ) (x y z : ℕ) → x ≡ unsigned_abs a → y ≡ unsigned_abs b → (y ≡ 0 → ⊥) → beq (int_lt a (pos 0)) (int_lt b (pos 0)) ≡ false → z ≡ div_ceil x y → fit (neg_ℤ (pos z)) ≡ divide a b
divide_apart a b x y z p q n s e = ap (λ (i : ℕ). fit (neg_ℤ (pos i))) (e ∙ ap₂ div_ceil p q) ∙ sym (divided a b y q n ∙ ap fit (quotient_apart a b (sym (sides a b) ∙ s)))

pub remainder_zero : (a b : ℤ) (y : ℕ) → y ≡ unsigned_abs b → y ≡ 0 → Err DivideByZero ≡ remainder a b
unfolding remainder
remainder_zero a b y e z = sym (cond-true _ _ _ (eq-eqb _ _ (sym e ∙ z)))

remaining : (a b : ℤ) (y : ℕ) → y ≡ unsigned_abs b → (y ≡ 0 → ⊥) → remainder a b ≡ fit (left a b)
unfolding remainder
remaining a b y e h = cond-false _ _ _ (ne_eqb _ _ (λ z. h (e ∙ z)))

left_is : (a b : ℤ) → sized (side b) (rest (beq (side a) (side b)) (unsigned_abs a % unsigned_abs b) (unsigned_abs b)) ≡ left a b
left_is (pos m) (pos n) = refl
left_is (pos m) (negsuc n) = refl
left_is (negsuc m) (pos n) = refl
left_is (negsuc m) (negsuc n) = refl

pub remainder_is : (a b : ℤ) (x y z : ℕ) → x ≡ unsigned_abs a → y ≡ unsigned_abs b → (y ≡ 0 → ⊥) → z ≡ rest (beq (int_lt a (pos 0)) (int_lt b (pos 0))) (x % y) y → fit (sized (int_lt b (pos 0)) z) ≡ remainder a b
remainder_is a b x y z p q n e =
    ap₂ (λ s r. fit (sized s r)) (side_is b) (e ∙ ap₂ (λ s i. rest s i y) (sides a b) (ap₂ (λ i j. i % j) p q) ∙ ap (rest (beq (side a) (side b)) (unsigned_abs a % unsigned_abs b)) q)
    ∙ ap fit (left_is a b) ∙ sym (remaining a b y q n)
