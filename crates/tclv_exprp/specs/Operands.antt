-- What an operand begins with.
use Rattle.std.specs.Prelude.{ℕ, Bool, ◌||◌, ◌&&◌, ◌==◌, if◌then◌else◌}
use Rattle.std.specs.Char.{is_ascii_digit}
use Rattle.tclv_text.specs.Cursors.{sign, is_name}
use Rattle.tclv_text.specs.declared.cursors.Sign.{Sign}
use Rattle.tclv_text.specs.declared.cursors.Sign.TheVariants as s
use Rattle.tclv_parse.specs.Runs.{Text}
use Rattle.tclv_exprp.specs.declared.operators.Op1.TheVariants as u
use Rattle.tclv_exprp.specs.declared.operands.Begins.{Begins}
use Rattle.tclv_exprp.specs.declared.operands.Begins.TheVariants as b
use Rattle.tclv_exprp.specs.Fronts.{first, second, third, is_sign}

-- a digit, or a point with a digit behind it
abbrev pub begins_digits : ℕ → ℕ → Bool
begins_digits c d = is_ascii_digit c || (c == 46 && is_ascii_digit d)

-- the same with a sign directly before it or none
unfoldable pub begins_number : ℕ → ℕ → ℕ → Bool
begins_number c d e = begins_digits c d || (is_sign c && begins_digits d e)

-- what the characters c, d and e begin, where none of the marks of a leaf stands
unfoldable pub plain_start : ℕ → ℕ → ℕ → Begins
plain_start c d e =
    if begins_number c d e then b.Number
    else (if c == 45 then b.Unary u.Minus
    else (if c == 43 then b.Unary u.Plus
    else (if c == 126 then b.Unary u.Invert
    else (if c == 33 then b.Unary u.Not
    else (if is_name c then b.Name
    else b.Other)))))

abbrev pub start_by : Sign → Text → Begins
start_by s.Dollar t = b.Variable
start_by s.Quote t = b.Quoted
start_by s.OpenBrace t = b.Braced
start_by s.OpenBracket t = b.Script
start_by s.OpenParen t = b.Paren
start_by _ t = plain_start (first t) (second t) (third t)

-- what a text begins with, where an operand may stand
unfoldable pub start : Text → Begins
start t = start_by (sign t) t

-- How many characters could still begin an operand or white space, where neither comes: a backslash; a dollar sign; a dollar sign and a colon.
unfoldable pub half_len : Text → ℕ
half_len t = if first t == 92 then 1 else (if first t == 36 then (if second t == 58 then 2 else 1) else 0)
