-- What the operators give, over the integers.
use Rattle.std.specs.Prelude.{◌≡◌, ◌≢◌, ℕ, zero, suc, ◌-◌, ◌/◌, ◌%◌, ◌^◌, ◌<◌, Bool, true, false, not, ◌==◌, nat_lt, if◌then◌else◌, ℤ, pos, negsuc, neg_ℤ, ◌+ℤ◌, ◌-ℤ◌, ◌*ℤ◌, int_lt, unsigned_abs, Result, Ok, Err}
use Rattle.std.specs.Int.{div_ceil, int_pow, w64, int_bit_and, int_bit_or, int_bit_xor}
use Rattle.std.specs.Ordering.{int_eq}
use Rattle.tclv_exprp.specs.declared.operators.Op1.{Op1}
use Rattle.tclv_exprp.specs.declared.operators.Op1.TheVariants as u
use Rattle.tclv_exprp.specs.declared.operators.Op2.{Op2}
use Rattle.tclv_exprp.specs.declared.operators.Op2.TheVariants as o
use Rattle.tclv_exprp.specs.declared.operators.OpFault.{OpFault}
use Rattle.tclv_exprp.specs.declared.operators.OpFault.TheVariants.{DivideByZero, TooLarge, NegativeShift, ZeroPower}

abbrev pub Answer : Type 0
Answer = Result ℤ OpFault

-- a number of 64 bits
unfoldable pub fit : ℤ → Answer
fit (pos n) = if nat_lt n (2 ^ 63) then Ok (pos n) else Err TooLarge
fit (negsuc n) = if nat_lt n (2 ^ 63) then Ok (negsuc n) else Err TooLarge

unfoldable pub add : ℤ → ℤ → Answer
add a b = fit (a +ℤ b)

unfoldable pub subtract : ℤ → ℤ → Answer
subtract a b = fit (a -ℤ b)

unfoldable pub times : ℤ → ℤ → Answer
times a b = fit (a *ℤ b)

-- a divided by b, rounded down
abbrev pub quotient : ℤ → ℤ → ℤ
quotient (pos x) (pos y) = pos (x / y)
quotient (pos x) (negsuc y) = neg_ℤ (pos (div_ceil x (suc y)))
quotient (negsuc x) (pos y) = neg_ℤ (pos (div_ceil (suc x) y))
quotient (negsuc x) (negsuc y) = pos (suc x / suc y)

-- how far r is below y, or nothing where r is 0
abbrev pub gap : ℕ → ℕ → ℕ
gap zero y = 0
gap (suc r) y = y - suc r

abbrev pub rest : Bool → ℕ → ℕ → ℕ
rest true r y = r
rest false r y = gap r y

abbrev pub sized : Bool → ℕ → ℤ
sized true n = neg_ℤ (pos n)
sized false n = pos n

-- what is left
abbrev pub left : ℤ → ℤ → ℤ
left (pos x) (pos y) = pos (x % y)
left (pos x) (negsuc y) = neg_ℤ (pos (gap (x % suc y) (suc y)))
left (negsuc x) (pos y) = pos (gap (suc x % y) y)
left (negsuc x) (negsuc y) = neg_ℤ (pos (suc x % suc y))

unfoldable pub divide : ℤ → ℤ → Answer
divide a b = if unsigned_abs b == 0 then Err DivideByZero else fit (quotient a b)

unfoldable pub remainder : ℤ → ℤ → Answer
remainder a b = if unsigned_abs b == 0 then Err DivideByZero else fit (left a b)

abbrev pub sign_power : ℕ → ℤ
sign_power n = if n % 2 == 0 then pos 1 else negsuc 0

-- a to the power n
unfoldable pub power_up : ℤ → ℕ → Answer
power_up a n = fit (int_pow a n)

-- a to the power -n, where n is not 0: 1 / a ^ n as a whole number
unfoldable pub power_down : ℤ → ℕ → Answer
power_down (pos zero) n = Err ZeroPower
power_down (pos (suc zero)) n = Ok (pos 1)
power_down (pos (suc (suc a))) n = Ok (pos 0)
power_down (negsuc zero) n = Ok (sign_power n)
power_down (negsuc (suc a)) n = Ok (pos 0)

unfoldable pub power : ℤ → ℤ → Answer
power a (pos n) = power_up a n
power a (negsuc n) = power_down a (suc n)

unfoldable pub shift_left_by : ℤ → ℕ → Answer
shift_left_by a n = fit (a *ℤ pos (2 ^ n))

unfoldable pub shift_left : ℤ → ℤ → Answer
shift_left a (pos n) = shift_left_by a n
shift_left a (negsuc n) = Err NegativeShift

unfoldable pub shift_right_by : ℤ → ℕ → ℤ
shift_right_by a n = quotient a (pos (2 ^ n))

unfoldable pub shift_right : ℤ → ℤ → Answer
shift_right a (pos n) = Ok (shift_right_by a n)
shift_right a (negsuc n) = Err NegativeShift

abbrev pub truth : Bool → ℤ
truth true = pos 1
truth false = pos 0

unfoldable pub complement : ℤ → ℤ
complement (pos n) = negsuc n
complement (negsuc n) = pos n

abbrev pub apply1 : Op1 → ℤ → Answer
apply1 u.Minus a = fit (neg_ℤ a)
apply1 u.Plus a = Ok a
apply1 u.Invert a = Ok (complement a)
apply1 u.Not a = Ok (truth (int_eq a (pos 0)))

abbrev pub apply2 : Op2 → ℤ → ℤ → Answer
apply2 o.Power a b = power a b
apply2 o.Times a b = times a b
apply2 o.Divide a b = divide a b
apply2 o.Remainder a b = remainder a b
apply2 o.Add a b = add a b
apply2 o.Subtract a b = subtract a b
apply2 o.ShiftLeft a b = shift_left a b
apply2 o.ShiftRight a b = shift_right a b
apply2 o.BitAnd a b = Ok (int_bit_and w64 a b)
apply2 o.BitXor a b = Ok (int_bit_xor w64 a b)
apply2 o.BitOr a b = Ok (int_bit_or w64 a b)
apply2 o.Equal a b = Ok (truth (int_eq a b))
apply2 o.NotEqual a b = Ok (truth (not (int_eq a b)))
apply2 o.Less a b = Ok (truth (int_lt a b))
apply2 o.Greater a b = Ok (truth (int_lt b a))
apply2 o.LessEqual a b = Ok (truth (not (int_lt b a)))
apply2 o.GreaterEqual a b = Ok (truth (not (int_lt a b)))

-- a remainder by b: from 0 up to b, without b, on b's side of 0
abbrev pub IsBelow : ℤ → ℤ → Type 0
IsBelow (pos r) (pos b) = r < b
IsBelow (pos r) (negsuc b) = r ≡ 0
IsBelow (negsuc r) (pos b) = ⊥
IsBelow (negsuc r) (negsuc b) = r < b

abbrev pub RoundsDown : Type 0
RoundsDown = (a b : ℤ) → unsigned_abs b ≢ 0 → (b *ℤ quotient a b +ℤ left a b ≡ a) × IsBelow (left a b) b
