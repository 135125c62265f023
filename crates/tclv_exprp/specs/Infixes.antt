-- The operators between two operands: how they are spelled, and how tightly they bind.
use Rattle.std.specs.Prelude.{ℕ, Bool, true, false, ◌||◌, ◌&&◌, ◌==◌, if◌then◌else◌, drop, Option, Some, None}
use Rattle.std.specs.Char.{is_ascii_alphabetic}
use Rattle.tclv_parse.specs.Runs.{Text}
use Rattle.tclv_exprp.specs.declared.operators.Op2.{Op2}
use Rattle.tclv_exprp.specs.declared.operators.Op2.TheVariants as o
use Rattle.tclv_exprp.specs.declared.operators.WordOp.{WordOp}
use Rattle.tclv_exprp.specs.declared.operators.WordOp.TheVariants as w
use Rattle.tclv_exprp.specs.declared.operators.Infix.{Infix}
use Rattle.tclv_exprp.specs.declared.operators.Infix.TheVariants as i
use Rattle.tclv_exprp.specs.Fronts.{first, second, third}

-- ---- spellings

-- eq ne lt gt le ge in ni
unfoldable pub word_of : ℕ → ℕ → Option WordOp
word_of c d =
    if c == 101 && d == 113 then Some w.Eq
    else (if c == 110 && d == 101 then Some w.Ne
    else (if c == 108 && d == 116 then Some w.Lt
    else (if c == 103 && d == 116 then Some w.Gt
    else (if c == 108 && d == 101 then Some w.Le
    else (if c == 103 && d == 101 then Some w.Ge
    else (if c == 105 && d == 110 then Some w.Among
    else (if c == 110 && d == 105 then Some w.NotAmong
    else None)))))))

-- * / % + - < > & ^ |
unfoldable pub single_of : ℕ → Option Op2
single_of c =
    if c == 42 then Some o.Times
    else (if c == 47 then Some o.Divide
    else (if c == 37 then Some o.Remainder
    else (if c == 43 then Some o.Add
    else (if c == 45 then Some o.Subtract
    else (if c == 60 then Some o.Less
    else (if c == 62 then Some o.Greater
    else (if c == 38 then Some o.BitAnd
    else (if c == 94 then Some o.BitXor
    else (if c == 124 then Some o.BitOr
    else None)))))))))

-- ** << >> <= >= == != && ||
unfoldable pub double_of : ℕ → ℕ → Option Infix
double_of c d =
    if c == 42 && d == 42 then Some (i.Number o.Power)
    else (if c == 60 && d == 60 then Some (i.Number o.ShiftLeft)
    else (if c == 62 && d == 62 then Some (i.Number o.ShiftRight)
    else (if c == 60 && d == 61 then Some (i.Number o.LessEqual)
    else (if c == 62 && d == 61 then Some (i.Number o.GreaterEqual)
    else (if c == 61 && d == 61 then Some (i.Number o.Equal)
    else (if c == 33 && d == 61 then Some (i.Number o.NotEqual)
    else (if c == 38 && d == 38 then Some i.And
    else (if c == 124 && d == 124 then Some i.Or
    else None))))))))

-- a word is an operator only where no letter stands behind it
abbrev pub ended_word : Option WordOp → ℕ → Option WordOp
ended_word None e = None
ended_word (Some op) e = if is_ascii_alphabetic e then None else Some op

abbrev pub or_single : Option Op2 → Option Infix
or_single None = None
or_single (Some op) = Some (i.Number op)

abbrev pub or_word : Option WordOp → Option Op2 → Option Infix
or_word None x = or_single x
or_word (Some op) x = Some (i.Words op)

abbrev pub or_other : Option Infix → Option WordOp → Option Op2 → Option Infix
or_other None y x = or_word y x
or_other (Some op) y x = Some op

-- the longest operator that the characters c, d and e begin with
unfoldable pub infix_of : ℕ → ℕ → ℕ → Option Infix
infix_of c d e = or_other (double_of c d) (ended_word (word_of c d) e) (single_of c)

-- the operator that a text begins with
unfoldable pub operator : Text → Option Infix
operator t = infix_of (first t) (second t) (third t)

abbrev pub single_number : Op2 → Bool
single_number o.Times = true
single_number o.Divide = true
single_number o.Remainder = true
single_number o.Add = true
single_number o.Subtract = true
single_number o.Less = true
single_number o.Greater = true
single_number o.BitAnd = true
single_number o.BitXor = true
single_number o.BitOr = true
single_number _ = false

-- an operator of one character
abbrev pub is_single : Infix → Bool
is_single (i.Number op) = single_number op
is_single _ = false

-- the text behind an operator
unfoldable pub behind : Infix → Text → Text
behind op t = if is_single op then drop 1 t else drop 1 (drop 1 t)

-- ---- precedence

abbrev pub number_level : Op2 → ℕ
number_level o.Power = 13
number_level o.Times = 0
number_level o.Divide = 0
number_level o.Remainder = 0
number_level o.Add = 1
number_level o.Subtract = 1
number_level o.ShiftLeft = 2
number_level o.ShiftRight = 2
number_level o.Less = 3
number_level o.Greater = 3
number_level o.LessEqual = 3
number_level o.GreaterEqual = 3
number_level o.Equal = 5
number_level o.NotEqual = 5
number_level o.BitAnd = 8
number_level o.BitXor = 9
number_level o.BitOr = 10

abbrev pub word_level : WordOp → ℕ
word_level w.Lt = 4
word_level w.Gt = 4
word_level w.Le = 4
word_level w.Ge = 4
word_level w.Eq = 6
word_level w.Ne = 6
word_level w.Among = 7
word_level w.NotAmong = 7

-- The row of an operator in the table of those that go left to right, the tightest first: 0 to 12. The power, which goes right to left, has 13.
abbrev pub level_of : Infix → ℕ
level_of (i.Number op) = number_level op
level_of (i.Words op) = word_level op
level_of i.And = 11
level_of i.Or = 12

-- how many rows go left to right
abbrev pub levels : ℕ
levels = 13

abbrev pub power_level : ℕ
power_level = 13

abbrev pub kept : ℕ → Option Infix → Option Infix
kept level None = None
kept level (Some op) = if level_of op == level then Some op else None

-- the operator of this row that a text begins with
unfoldable pub at_level : ℕ → Text → Option Infix
at_level level t = kept level (operator t)

-- ---- fronts of operators

-- the first character of an operator of two, or of a backslash-newline, and no operator itself
abbrev pub is_half : ℕ → Bool
is_half c = c == 61 || c == 33 || c == 101 || c == 110 || c == 108 || c == 103 || c == 105 || c == 92

abbrev pub half_by : ℕ → Option WordOp → ℕ
half_by c None = if is_half c then 1 else 0
half_by c (Some op) = 2

-- How many characters could still begin an operator or white space, where neither comes: a word with a letter behind it is one but for that letter.
unfoldable pub half_len : Text → ℕ
half_len t = half_by (first t) (word_of (first t) (second t))
