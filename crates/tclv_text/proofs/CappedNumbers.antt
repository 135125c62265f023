-- Numbers that are kept up to the greatest one of 64 bits.
use Rattle.std.proofs.Common.{◌≡◌, ℕ, ◌+◌, ◌-◌, ◌*◌, ◌^◌, ◌<◌, ◌≤◌, true, false, cond, List, [], ◌∷◌, Some, None, min, sym, ap, ◌∙◌, refl, arith, length, get_or, drop}
use Rattle.std.specs.Char.{digit_value, is_digit}
use Rattle.std.proofs.Math.Nat.{mul-le-mul_left}
use Rattle.std.proofs.lemmas.Bool.{cases_lt, cases_eq}
use mathlib.Core.Logic.{⊎_elim}
use Rattle.tclv_text.specs.Numbers.{digits_after, capped, number}
use Rattle.std.proofs.lemmas.List.{at_drop_more}
use Rattle.std.proofs.lemmas.Bool.{cond-true, cond-false, lt-ltb, le-ltb}

grows : (m r : ℕ) → 1 ≤ r → m ≤ m * r
grows m r h = grind (arith, mul-le-mul_left m h)

large_if : (m n : ℕ) → min (2 ^ 64 - 1) m ≡ min (2 ^ 64 - 1) n → (m ≡ n → ⊥) → 2 ^ 64 - 1 ≤ m
large_if m n e q = ⊎_elim (λ (l : m < 2 ^ 64 - 1). absurd (q (omega arith))) (λ (g : 2 ^ 64 - 1 ≤ m). g) (cases_lt m (2 ^ 64 - 1))

-- one more digit
step : (m n r d : ℕ) → 1 ≤ r → min (2 ^ 64 - 1) m ≡ min (2 ^ 64 - 1) n → min (2 ^ 64 - 1) (m * r + d) ≡ min (2 ^ 64 - 1) (n * r + d)
step m n r d h e =
    ⊎_elim
    (λ (q : m ≡ n). ap (λ x. min (2 ^ 64 - 1) (x * r + d)) q)
    (λ (q : m ≡ n → ⊥). let a = grows m r h in let b = grows n r h in let large : 2 ^ 64 - 1 ≤ m = large_if m n e q in let large_n : 2 ^ 64 - 1 ≤ n = large_if n m (sym e) (λ x. q (sym x)) in omega arith)
    (cases_eq m n)

-- the digits behind two numbers that are the same up to the greatest go on to such
pub capped_same : (r m n : ℕ) (cs : List ℕ) → 1 ≤ r → min (2 ^ 64 - 1) m ≡ min (2 ^ 64 - 1) n → capped (digits_after r m cs) ≡ capped (digits_after r n cs)
capped_same r m n [] h e = ap Some e
capped_same r m n (c ∷ cs) h e =
    elim (is_digit c r) as (λ b. capped (cond b (digits_after r (m * r + digit_value c) cs) None) ≡ capped (cond b (digits_after r (n * r + digit_value c) cs) None)) [
      | true ↦ capped_same r (m * r + digit_value c) (n * r + digit_value c) cs h (step m n r (digit_value c) h e)
      | false ↦ refl
    ]

pub number_nonempty : (r : ℕ) (cs : List ℕ) → 0 < length cs → number r cs ≡ digits_after r 0 cs
number_nonempty r [] h = absurd (omega arith)
number_nonempty r (c ∷ cs) h = refl

pub capped_digit : (r n s : ℕ) (ds : List ℕ) (i : ℕ) → 1 ≤ r → i < length ds → digit_value (get_or ds i 0) < r → s ≡ min (2 ^ 64 - 1) (n * r + digit_value (get_or ds i 0)) →
    capped (digits_after r n (drop i ds)) ≡ capped (digits_after r s (drop (i + 1) ds))
capped_digit r n s ds i h l d e =
    ap capped (at_drop_more (digits_after r n) ds i 0 l ∙ cond-true _ _ _ (lt-ltb _ _ d)) ∙ capped_same r _ s _ h (omega arith)

pub no_digit : (r n : ℕ) (ds : List ℕ) (i : ℕ) → i < length ds → r ≤ digit_value (get_or ds i 0) → digits_after r n (drop i ds) ≡ None
no_digit r n ds i l d = at_drop_more (digits_after r n) ds i 0 l ∙ cond-false _ _ _ (le-ltb _ _ d)

pub capped_some : (n : ℕ) → n ≤ 2 ^ 64 - 1 → capped (Some n) ≡ Some n
capped_some n h = let e : min (2 ^ 64 - 1) n ≡ n = omega arith in ap Some e
