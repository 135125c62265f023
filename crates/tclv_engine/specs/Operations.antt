-- What the operators of expressions give of texts. A result is a number's decimal text; a truth value is 1 or 0.
use Rattle.std.specs.Prelude.{ℕ, ◌-◌, length, slice_index_or, ◌&&◌, not, Bool, true, false, if◌then◌else◌, List, [], ◌∷◌, Option, Some, None, Result, Ok, Err, ℤ, codes, ◌==◌, ◌||◌}
use Rattle.std.specs.List.{list_any}
use Rattle.std.specs.declared.cmp.Ordering.{Ordering}
use Rattle.std.specs.Ordering.{nat_cmp, is_eq, is_lt, is_le, is_gt, is_ge}
use Rattle.std.specs.Cmp.Lexicographic.{slice_cmp}
use Rattle.tclv_text.specs.declared.numbers.WholeFault.{WholeFault}
use Rattle.tclv_text.specs.declared.numbers.WholeFault.TheVariants.{NotWhole, TooLarge, FloatForm}
use Rattle.tclv_text.specs.Numbers.{whole, whole_text}
use Rattle.tclv_text.specs.Truths.{truth}
use Rattle.tclv_exprp.specs.declared.operators.Op1.{Op1}
use Rattle.tclv_exprp.specs.declared.operators.Op1.TheVariants as u
use Rattle.tclv_exprp.specs.declared.operators.Op2.{Op2}
use Rattle.tclv_exprp.specs.declared.operators.Op2.TheVariants as o
use Rattle.tclv_exprp.specs.declared.operators.OpFault.{OpFault}
use Rattle.tclv_exprp.specs.declared.operators.OpFault.TheVariants as fault
use Rattle.tclv_exprp.specs.declared.operators.WordOp.{WordOp}
use Rattle.tclv_exprp.specs.declared.operators.WordOp.TheVariants as w
use Rattle.tclv_exprp.specs.Operators.{Answer, apply1, apply2}
use Rattle.tclv_exprp.specs.Operators as numbers
use Rattle.tclv_model.specs.declared.messages.MessageId.{MessageId}
use Rattle.tclv_model.specs.declared.messages.MessageId.TheVariants as message
use Rattle.tclv_model.specs.declared.error_codes.ErrorCode.{ErrorCode}
use Rattle.tclv_model.specs.declared.error_codes.ErrorCode.TheVariants as code
use Rattle.tclv_engine.specs.declared.operations.Comparands.{Comparands}
use Rattle.tclv_engine.specs.declared.operations.Comparands.TheVariants as c
use Rattle.tclv_engine.specs.State.{Text, State}
use Rattle.tclv_engine.specs.Results.{Res, bind, done, raise}
use Rattle.tclv_model.specs.Values.{list_of}
use Rattle.tclv_engine.specs.DataAnswers.{of_answer}
use Rattle.tclv_engine.specs.Names.{bytes_of}

-- the text below the top one
abbrev pub second_of : List Text → Text
second_of stack = slice_index_or stack (length stack - 2) []

-- ---- results

abbrev pub number : {W : Type 0} → ℤ → (State W) → Res W Text
number n st = done (whole_text n) st

-- 1 or 0
abbrev pub truth_number : {W : Type 0} → Bool → (State W) → Res W Text
truth_number b st = number (numbers.truth b) st

-- ---- operands

-- why an operand is no number
abbrev pub operand_message : WholeFault → MessageId
operand_message NotWhole = message.NonNumericOperand
operand_message TooLarge = message.IntegerTooLarge
operand_message FloatForm = message.FloatOperand

abbrev pub operand_code : WholeFault → ErrorCode
operand_code NotWhole = code.NoCode
operand_code TooLarge = code.Overflow
operand_code FloatForm = code.NoCode

abbrev pub operand_by : {W : Type 0} → Text → Text → Result ℤ WholeFault → (State W) → Res W ℤ
operand_by sign text (Ok n) st = done n st
operand_by sign text (Err why) st = raise (operand_message why) text sign (operand_code why) st

-- The number that an operand is. Else the message names the operand, and its operator or function.
abbrev pub operand : {W : Type 0} → Text → Text → (State W) → Res W ℤ
operand sign text st = operand_by sign text (whole text) st

abbrev pub truth_by : {W : Type 0} → Text → Option Bool → (State W) → Res W Bool
truth_by text (Some b) st = done b st
truth_by text None st = raise message.NotBoolean text [] code.NoCode st

-- the truth value that an operand is
abbrev pub truth_of : {W : Type 0} → Text → (State W) → Res W Bool
truth_of text st = truth_by text (truth text) st

-- ---- arithmetic

-- why there is no number
abbrev pub fault_message : OpFault → MessageId
fault_message fault.DivideByZero = message.DivideByZero
fault_message fault.TooLarge = message.IntegerTooLarge
fault_message fault.NegativeShift = message.NegativeShift
fault_message fault.ZeroPower = message.ZeroToNegativePower

abbrev pub fault_code : OpFault → ErrorCode
fault_code fault.DivideByZero = code.DivideByZero
fault_code fault.TooLarge = code.Overflow
fault_code fault.NegativeShift = code.NoCode
fault_code fault.ZeroPower = code.ZeroToNegativePower

-- what an operation on numbers gave
abbrev pub calculated : {W : Type 0} → Answer → (State W) → Res W Text
calculated (Ok n) st = number n st
calculated (Err why) st = raise (fault_message why) [] [] (fault_code why) st

abbrev pub unary_sign : Op1 → Text
unary_sign u.Minus = codes "-"
unary_sign u.Plus = codes "+"
unary_sign u.Invert = codes "~"
unary_sign u.Not = codes "!"

abbrev pub negation : {W : Type 0} → Text → (State W) → Res W Text
negation x st = bind (truth_of x st) (λ b s1. truth_number (not b) s1)

abbrev pub signed : {W : Type 0} → Op1 → Text → (State W) → Res W Text
signed op x st = bind (operand (unary_sign op) x st) (λ n s1. calculated (apply1 op n) s1)

-- an operator before its operand
abbrev pub unary : {W : Type 0} → Op1 → Text → (State W) → Res W Text
unary u.Not x st = negation x st
unary op x st = signed op x st

abbrev pub sign : Op2 → Text
sign o.Power = codes "**"
sign o.Times = codes "*"
sign o.Divide = codes "/"
sign o.Remainder = codes "%"
sign o.Add = codes "+"
sign o.Subtract = codes "-"
sign o.ShiftLeft = codes "<<"
sign o.ShiftRight = codes ">>"
sign o.BitAnd = codes "&"
sign o.BitXor = codes "^"
sign o.BitOr = codes "|"
sign o.Equal = codes "=="
sign o.NotEqual = codes "!="
sign o.Less = codes "<"
sign o.Greater = codes ">"
sign o.LessEqual = codes "<="
sign o.GreaterEqual = codes ">="

-- The left operand is looked at before the right one.
abbrev pub arithmetic : {W : Type 0} → Op2 → Text → Text → (State W) → Res W Text
arithmetic op x y st = bind (operand (sign op) x st) (λ m s1. bind (operand (sign op) y s1) (λ n s2. calculated (apply2 op m n) s2))

-- ---- comparison

abbrev pub compares : Op2 → Bool
compares o.Equal = true
compares o.NotEqual = true
compares o.Less = true
compares o.Greater = true
compares o.LessEqual = true
compares o.GreaterEqual = true
compares _ = false

-- the order of two texts, by code points
unfoldable pub order : Text → Text → Ordering
order x y = slice_cmp nat_cmp x y

-- what a comparison says of two texts in this order
abbrev pub holds : Op2 → Ordering → Bool
holds o.Equal by = is_eq by
holds o.NotEqual by = not (is_eq by)
holds o.Less by = is_lt by
holds o.Greater by = is_gt by
holds o.LessEqual by = is_le by
holds o.GreaterEqual by = is_ge by
holds _ by = false

-- What two texts that are compared are: whole numbers; or, where one is no number, texts; or numbers, of which one is of floating form, or
-- else needs more than 64 bits.
abbrev pub sorts_of : Result ℤ WholeFault → Result ℤ WholeFault → Comparands
sorts_of (Ok m) (Ok n) = c.Numbers m n
sorts_of (Ok m) (Err NotWhole) = c.Texts
sorts_of (Ok m) (Err FloatForm) = c.Floats
sorts_of (Ok m) (Err TooLarge) = c.LargeNumbers
sorts_of (Err NotWhole) b = c.Texts
sorts_of (Err FloatForm) (Err NotWhole) = c.Texts
sorts_of (Err FloatForm) b = c.Floats
sorts_of (Err TooLarge) (Err NotWhole) = c.Texts
sorts_of (Err TooLarge) (Err FloatForm) = c.Floats
sorts_of (Err TooLarge) b = c.LargeNumbers

-- an `a`, in either case
abbrev pub has_a : List ℕ → Bool
has_a bytes = list_any (λ b. (b == 97) || (b == 65)) bytes

-- Of the floating forms, those of no number alone have an `a`.
abbrev pub is_nan : Text → Bool
is_nan x = has_a (bytes_of x)

-- Equal texts answer at once; else there is an error.
abbrev pub if_same : {W : Type 0} → Bool → Op2 → Ordering → MessageId → ErrorCode → (State W) → Res W Text
if_same true op by kind errorcode st = truth_number (holds op by) st
if_same false op by kind errorcode st = raise kind [] [] errorcode st

abbrev pub compared : {W : Type 0} → Op2 → Text → Text → Comparands → (State W) → Res W Text
compared op x y (c.Numbers m n) st = calculated (apply2 op m n) st
compared op x y c.Texts st = truth_number (holds op (order x y)) st
compared op x y c.Floats st = if_same (is_eq (order x y) && not (is_nan x)) op (order x y) message.FloatComparison code.NoCode st
compared op x y c.LargeNumbers st = if_same (is_eq (order x y)) op (order x y) message.IntegerTooLarge code.Overflow st

-- Numbers where both are whole, else texts by code points.
abbrev pub comparison : {W : Type 0} → Op2 → Text → Text → (State W) → Res W Text
comparison op x y st = compared op x y (sorts_of (whole x) (whole y)) st

-- an operator of numbers between its operands
abbrev pub between : {W : Type 0} → Op2 → Text → Text → (State W) → Res W Text
between op x y st = if compares op then comparison op x y st else arithmetic op x y st

-- ---- texts

-- what an operator of texts says of two texts in this order
abbrev pub word_holds : WordOp → Ordering → Bool
word_holds w.Eq by = is_eq by
word_holds w.Ne by = not (is_eq by)
word_holds w.Lt by = is_lt by
word_holds w.Gt by = is_gt by
word_holds w.Le by = is_le by
word_holds w.Ge by = is_ge by
word_holds _ by = false

-- the text is one of these
unfoldable pub is_among : Text → List Text → Bool
is_among x [] = false
is_among x (t ∷ ts) = is_eq (order x t) || is_among x ts

abbrev pub as_asked : Bool → Bool → Bool
as_asked true b = b
as_asked false b = not b

-- Whether the left text is an element of the list that the right one is, as it is asked for.
abbrev pub membership : {W : Type 0} → Bool → Text → Text → (State W) → Res W Text
membership wanted x y st = bind (of_answer (list_of y) st) (λ ts s1. truth_number (as_asked wanted (is_among x ts)) s1)

-- an operator of texts between its operands
abbrev pub words_between : {W : Type 0} → WordOp → Text → Text → (State W) → Res W Text
words_between w.Among x y st = membership true x y st
words_between w.NotAmong x y st = membership false x y st
words_between op x y st = truth_number (word_holds op (order x y)) st
