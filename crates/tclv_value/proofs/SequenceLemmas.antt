-- Numbers at equal steps, and the bits that they want.
use Rattle.std.proofs.Common.{◌≡◌, ℕ, suc, ◌+◌, ◌-◌, ◌^◌, ◌<◌, ◌≤◌, ℤ, Bool, true, false, List, [], ◌∷◌, ◌++◌, sym, ap, subst, ◌∙◌, arith}
use Rattle.std.specs.Prelude.{pos, negsuc, ◌+ℤ◌, ◌*ℤ◌, ◌≤ℤ◌}
use Rattle.std.specs.Bool.{MatchBool}
use Rattle.std.specs.Int.{w64, w128}
use Rattle.std.specs.Int.RustNames.{FitsSigned, unsigned_abs, int_le}
use Rattle.std.proofs.lemmas.Int.{ints, to_z-of_z, to_z_pos, fits_signed_mul, unsigned_abs-mul}
use Rattle.std.proofs.lemmas.List.FromFn.{map-range_with_len_more}
use Rattle.std.proofs.Math.Nat.{mul-le-mul, mul-le-mul_left}
use mir.Val.{to_z, of_z}
use Rattle.tclv_text.specs.Numbers.{whole_text}
use Rattle.tclv_value.specs.Elements.{IsListText}
use Rattle.tclv_value.specs.Sequences.{number_at, sequence, IsInWords, LeavesWords}

-- one more number
pub sequence_more : (start step : ℤ) (n : ℕ) → sequence start step (n + 1) ≡ sequence start step n ++ whole_text (number_at start step n) ∷ []
sequence_more start step n = map-range_with_len_more (λ k. whole_text (number_at start step k)) 0 n n (omega arith)

-- what stands between two numbers of 64 bits has 64 bits
pub between : (start step : ℤ) (k n : ℕ) → k ≤ n → FitsSigned w64 start → FitsSigned w64 (number_at start step n) → FitsSigned w64 (number_at start step k)
between start (pos a) k n le first last = omega (arith, ints, mul-le-mul_left a le)
between start (negsuc a) k n le first last = omega (arith, ints, mul-le-mul_left (suc a) le)

-- a number of 64 bits, in 128
wide : (z : ℤ) → FitsSigned w64 z → FitsSigned w128 z
wide z fits = omega (arith, ints)

in_128 : (z : ℤ) → FitsSigned w64 z → to_z w128 (of_z w128 (to_z w64 (of_z w64 z))) ≡ z
in_128 z fits = ap (λ y. to_z w128 (of_z w128 y)) (to_z-of_z w64 z fits) ∙ to_z-of_z w128 z (wide z fits)

product_fits : (step : ℤ) (k : ℕ) → FitsSigned w64 step → k ≤ 2 ^ 62 → FitsSigned w128 (step *ℤ pos k)
product_fits step k fits le = fits_signed_mul w128 step (pos k) (2 ^ 63) (2 ^ 62) (omega (arith, ints)) le (omega arith)

product_low : (step : ℤ) (k : ℕ) → FitsSigned w64 step → k ≤ 2 ^ 62 → unsigned_abs (step *ℤ pos k) ≤ 2 ^ 125
product_low step k fits le =
    let size : unsigned_abs step ≤ 2 ^ 63 = omega (arith, ints) in
    omega (arith, unsigned_abs-mul step (pos k), mul-le-mul size le)

sum_fits : (start step : ℤ) (k : ℕ) → FitsSigned w64 start → unsigned_abs (step *ℤ pos k) ≤ 2 ^ 125 → FitsSigned w128 (number_at start step k)
sum_fits start step k fits low = omega (arith, ints)

pub computed : (start step : ℤ) (k : ℕ) → FitsSigned w64 start → FitsSigned w64 step → k ≤ 2 ^ 62 →
    to_z w128 (of_z w128 (to_z w128 (of_z w128 (to_z w64 (of_z w64 start))) +ℤ to_z w128 (of_z w128 (to_z w128 (of_z w128 (to_z w64 (of_z w64 step))) *ℤ to_z w128 k)))) ≡ number_at start step k
computed start step k fits_start fits_step le =
    let small : to_z w128 k ≡ pos k = to_z_pos w128 k (omega arith) in
    let product : to_z w128 (of_z w128 (to_z w128 (of_z w128 (to_z w64 (of_z w64 step))) *ℤ to_z w128 k)) ≡ step *ℤ pos k =
    ap (λ y. to_z w128 (of_z w128 (y *ℤ to_z w128 k))) (in_128 step fits_step) ∙ ap (λ y. to_z w128 (of_z w128 (step *ℤ y))) small ∙ to_z-of_z w128 (step *ℤ pos k) (product_fits step k fits_step le) in
    ap (λ y. to_z w128 (of_z w128 (y +ℤ to_z w128 (of_z w128 (to_z w128 (of_z w128 (to_z w64 (of_z w64 step))) *ℤ to_z w128 k))))) (in_128 start fits_start)
    ∙ ap (λ y. to_z w128 (of_z w128 (start +ℤ y))) product
    ∙ to_z-of_z w128 (number_at start step k) (sum_fits start step k fits_start (product_low step k fits_step le))

-- whether the last number of some has 64 bits says whether all have
pub by_last : (start step : ℤ) (count : ℕ) (last : ℤ) (b : Bool) → FitsSigned w64 start → 0 < count → last ≡ number_at start step (count - 1) → negsuc 9223372036854775807 ≤ℤ last → int_le last (pos 9223372036854775807) ≡ b →
    MatchBool b (IsInWords start step count) (LeavesWords start step count)
by_last start step count last true first some is low high = λ k within. between start step k (count - 1) (omega (arith, within)) first (subst (FitsSigned w64) is (omega (arith, ints)))
by_last start step count last false first some is low high = (count - 1, omega arith, λ fits. let f : FitsSigned w64 last = subst (FitsSigned w64) (sym is) fits in absurd (omega (arith, ints)))

-- one more number of a sequence is written
pub number_written : (start step : ℤ) (k : ℕ) (old new : List ℕ) (n : ℤ) → n ≡ number_at start step k → IsListText (sequence start step k) old → ((ts : List (List ℕ)) → IsListText ts old → IsListText (ts ++ whole_text n ∷ []) new) → IsListText (sequence start step (k + 1)) new
number_written start step k old new n is so_far more =
    subst (λ ts. IsListText ts new) (ap (λ z. sequence start step k ++ whole_text z ∷ []) is ∙ sym (sequence_more start step k)) (more (sequence start step k) so_far)

-- a number of a sequence whose start and step came through their bits
pub same_number : (start step start2 step2 : ℤ) (k : ℕ) → start2 ≡ start → step2 ≡ step → number_at start2 step2 k ≡ number_at start step k
same_number start step start2 step2 k a b = ap (λ z. number_at z step2 k) a ∙ ap (λ z. number_at start z k) b

-- a number of 64 bits that was computed in 128
narrowed : (z : ℤ) → FitsSigned w64 z → to_z w64 (of_z w64 (to_z w128 (of_z w128 z))) ≡ z
narrowed z fits = ap (λ y. to_z w64 (of_z w64 y)) (to_z-of_z w128 z (wide z fits)) ∙ to_z-of_z w64 z fits

pub narrow_number : (start step start2 step2 : ℤ) (k : ℕ) (r : ℤ) → start2 ≡ start → step2 ≡ step → r ≡ number_at start2 step2 k → FitsSigned w64 (number_at start step k) → to_z w64 (of_z w64 (to_z w128 (of_z w128 r))) ≡ number_at start2 step2 k
narrow_number start step start2 step2 k r a b is fits = narrowed r (subst (FitsSigned w64) (sym (is ∙ same_number start step start2 step2 k a b)) fits) ∙ is
