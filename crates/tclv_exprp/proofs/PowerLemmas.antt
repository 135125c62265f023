-- Powers and numbers by their bits.
use Rattle.std.proofs.Common.{◌≡◌, ℕ, zero, suc, ◌-◌, ◌%◌, ◌^◌, ◌≤◌, true, false, Bool, ℤ, pos, negsuc, neg_ℤ, Ok, Err, sym, ap, subst, ◌∙◌, refl, arith, w64, to_z, of_z, SFits, true≢false, pow_mono, cond, eqb}
use Rattle.std.specs.Prelude.{int_lt, unsigned_abs}
use Rattle.std.proofs.Math.Nat.{pow-suc, pow-le-pow_left, mul-zero, mul-one}
use Rattle.std.proofs.lemmas.Int.{to_z-of_z}
use Rattle.tclv_exprp.specs.declared.operators.OpFault.TheVariants.{TooLarge, ZeroPower}
use Rattle.tclv_exprp.specs.Operators.{Answer, fit, power, power_up, power_down, sign_power, sized, complement}
use Rattle.tclv_exprp.proofs.IntegerLemmas.{fit_none, not_below}

pub bits_0 : (a : ℤ) → SFits w64 a → of_z w64 a ≡ 0 → pos 0 ≡ a
bits_0 (pos n) f e = ap pos (sym e)
bits_0 (negsuc n) f e = absurd (omega (arith, f.sfits))

pub bits_1 : (a : ℤ) → SFits w64 a → of_z w64 a ≡ 1 → pos 1 ≡ a
bits_1 (pos n) f e = ap pos (sym e)
bits_1 (negsuc n) f e = absurd (omega (arith, f.sfits))

pub bits_less : (a : ℤ) → SFits w64 a → of_z w64 a ≡ 2 ^ 64 - 1 → negsuc 0 ≡ a
bits_less (pos n) f e = absurd (omega (arith, f.sfits))
bits_less (negsuc n) f e = let h : 0 ≡ n = omega (arith, f.sfits) in ap negsuc h

pub sign_fits : (n : ℕ) → to_z w64 (of_z w64 (sign_power n)) ≡ sign_power n
sign_fits n = elim (eqb (n % 2) 0) as (λ b. to_z w64 (of_z w64 (cond b (pos 1) (negsuc 0))) ≡ cond b (pos 1) (negsuc 0)) [ true ↦ refl | false ↦ refl ]

-- ---- downward

pub down_0 : (a : ℤ) (n : ℕ) → pos 0 ≡ a → Err ZeroPower ≡ power_down a n
unfolding power_down
down_0 a n e = subst (λ b. Err ZeroPower ≡ power_down b n) e refl

pub down_1 : (a : ℤ) (n : ℕ) → pos 1 ≡ a → Ok (pos 1) ≡ power_down a n
unfolding power_down
down_1 a n e = subst (λ b. Ok (pos 1) ≡ power_down b n) e refl

pub down_less : (a : ℤ) (n : ℕ) (r : ℤ) → r ≡ sign_power n → negsuc 0 ≡ a → Ok (to_z w64 (of_z w64 r)) ≡ power_down a n
unfolding power_down
down_less a n r p e = subst (λ b. Ok (to_z w64 (of_z w64 r)) ≡ power_down b n) e (ap (λ (z : ℤ). let x : Answer = Ok (to_z w64 (of_z w64 z)) in x) p ∙ ap Ok (sign_fits n))

pub down_other : (a : ℤ) (n : ℕ) → (of_z w64 a ≡ 0 → ⊥) → (of_z w64 a ≡ 1 → ⊥) → (of_z w64 a ≡ 2 ^ 64 - 1 → ⊥) → Ok (pos 0) ≡ power_down a n
unfolding power_down
down_other (pos zero) n p q r = absurd (p refl)
down_other (pos (suc zero)) n p q r = absurd (q refl)
down_other (pos (suc (suc a))) n p q r = refl
down_other (negsuc zero) n p q r = absurd (r refl)
down_other (negsuc (suc a)) n p q r = refl

-- ---- upward

zero_pow : (n : ℕ) → 64 ≤ n → 0 ^ n ≡ 0
zero_pow zero h = absurd (omega arith)
zero_pow (suc n) h = pow-suc 0 n ∙ mul-zero (0 ^ n)

one_pow : (n : ℕ) → 1 ^ n ≡ 1
one_pow zero = refl
one_pow (suc n) = pow-suc 1 n ∙ mul-one (1 ^ n) ∙ one_pow n

pub up_0 : (a : ℤ) (n : ℕ) → 64 ≤ n → pos 0 ≡ a → Ok (pos 0) ≡ power_up a n
unfolding power_up fit
up_0 a n h e = subst (λ b. Ok (pos 0) ≡ power_up b n) e (ap (λ k. fit (pos k)) (sym (zero_pow n h)))

pub up_1 : (a : ℤ) (n : ℕ) → pos 1 ≡ a → Ok (pos 1) ≡ power_up a n
unfolding power_up fit
up_1 a n e = subst (λ b. Ok (pos 1) ≡ power_up b n) e (ap (λ k. fit (pos k)) (sym (one_pow n)))

fit_sign : (n k : ℕ) → 1 ≡ k → Ok (sign_power n) ≡ fit (cond (eqb (n % 2) 0) (pos k) (neg_ℤ (pos k)))
unfolding fit
fit_sign n k e = subst (λ j. Ok (sign_power n) ≡ fit (cond (eqb (n % 2) 0) (pos j) (neg_ℤ (pos j)))) e
    (elim (eqb (n % 2) 0) as (λ b. Ok (cond b (pos 1) (negsuc 0)) ≡ fit (cond b (pos 1) (neg_ℤ (pos 1)))) [ true ↦ refl | false ↦ refl ])

pub up_less : (a : ℤ) (n : ℕ) (r : ℤ) → r ≡ sign_power n → negsuc 0 ≡ a → Ok (to_z w64 (of_z w64 r)) ≡ power_up a n
unfolding power_up
up_less a n r p e = subst (λ b. Ok (to_z w64 (of_z w64 r)) ≡ power_up b n) e ((ap (λ (z : ℤ). let x : Answer = Ok (to_z w64 (of_z w64 z)) in x) p ∙ ap Ok (sign_fits n)) ∙ fit_sign n (1 ^ n) (sym (one_pow n)))

pub large : (s : Bool) (x : ℕ) → 2 ^ 64 ≤ x → fit (sized s x) ≡ Err TooLarge
large true zero h = absurd (omega arith)
large true (suc x) h = fit_none (negsuc x) (λ f. absurd (omega (arith, f.sfits)))
large false x h = fit_none (pos x) (λ f. absurd (omega (arith, f.sfits)))

grown : (a n : ℕ) → 64 ≤ n → 2 ≤ a → 2 ^ 64 ≤ a ^ n
grown a n h k = omega (arith, pow-le-pow_left k n, pow_mono h)

signs : (b : Bool) (x : ℕ) → 2 ^ 64 ≤ x → fit (cond b (pos x) (neg_ℤ (pos x))) ≡ Err TooLarge
signs true x h = large false x h
signs false x h = large true x h

pub up_other : (a : ℤ) (n : ℕ) → 64 ≤ n → (of_z w64 a ≡ 0 → ⊥) → (of_z w64 a ≡ 1 → ⊥) → (of_z w64 a ≡ 2 ^ 64 - 1 → ⊥) → Err TooLarge ≡ power_up a n
unfolding power_up
up_other (pos zero) n h p q r = absurd (p refl)
up_other (pos (suc zero)) n h p q r = absurd (q refl)
up_other (pos (suc (suc a))) n h p q r = sym (large false (suc (suc a) ^ n) (grown (suc (suc a)) n h (omega arith)))
up_other (negsuc zero) n h p q r = absurd (r refl)
up_other (negsuc (suc a)) n h p q r = sym (signs (eqb (n % 2) 0) (suc (suc a) ^ n) (grown (suc (suc a)) n h (omega arith)))

pub power_below : (a b : ℤ) (n : ℕ) → int_lt b (pos 0) ≡ true → n ≡ unsigned_abs b → power_down a n ≡ power a b
unfolding power
power_below a (pos m) n h e = absurd (true≢false (sym h ∙ not_below m))
power_below a (negsuc m) n h e = ap (power_down a) e

pub power_above : (a b : ℤ) (n : ℕ) → int_lt b (pos 0) ≡ false → n ≡ unsigned_abs b → power_up a n ≡ power a b
unfolding power
power_above a (pos m) n h e = ap (power_up a) e
power_above a (negsuc m) n h e = absurd (true≢false h)

pub inverted : (a : ℤ) → SFits w64 a → to_z w64 (2 ^ 64 - 1 - of_z w64 a) ≡ complement a
unfolding complement
inverted (pos n) f = ap (to_z w64) (let e : 2 ^ 64 - 1 - n ≡ 2 ^ 64 - suc n = omega arith in e) ∙ to_z-of_z w64 (negsuc n) (record { sfits = f.sfits })
inverted (negsuc n) f = ap (to_z w64) (let e : 2 ^ 64 - 1 - (2 ^ 64 - suc n) ≡ n = omega (arith, f.sfits) in e) ∙ to_z-of_z w64 (pos n) (record { sfits = f.sfits })
