-- Which sign stands where a leaf begins.
use Rattle.std.proofs.Common.{◌≡◌, ℕ, ◌==◌, Bool, true, false, cond, refl, sym, ap, ◌∙◌}
use Rattle.tclv_text.specs.Cursors.{sign, is_name}
use Rattle.tclv_text.specs.declared.cursors.Sign.{Sign}
use Rattle.tclv_text.specs.declared.cursors.Sign.TheVariants as s
use Rattle.tclv_parse.specs.Runs.{Text}
use Rattle.tclv_exprp.specs.declared.operators.Op1.TheVariants as u
use Rattle.tclv_exprp.specs.declared.operands.Begins.{Begins}
use Rattle.tclv_exprp.specs.declared.operands.Begins.TheVariants as b
use Rattle.tclv_exprp.specs.Operands.{start, start_by, plain_start, begins_number}

-- a marked leaf is none of what plain characters begin
abbrev is_marked : Begins → Bool
is_marked b.Variable = true
is_marked b.Script = true
is_marked _ = false

unmarked : (number minus plus invert not name : Bool) →
    is_marked (cond number b.Number (cond minus (b.Unary u.Minus) (cond plus (b.Unary u.Plus) (cond invert (b.Unary u.Invert) (cond not (b.Unary u.Not) (cond name b.Name b.Other)))))) ≡ false
unmarked true minus plus invert not name = refl
unmarked false true plus invert not name = refl
unmarked false false true invert not name = refl
unmarked false false false true not name = refl
unmarked false false false false true name = refl
unmarked false false false false false true = refl
unmarked false false false false false false = refl

plain_is : (c d e : ℕ) → is_marked (plain_start c d e) ≡ false
unfolding plain_start
plain_is c d e = unmarked (begins_number c d e) (c == 45) (c == 43) (c == 126) (c == 33) (is_name c)

not_plain : (x y : Begins) → is_marked x ≡ false → x ≡ y → is_marked y ≡ true → ⊥
not_plain x y p e q = let z : false ≡ true = sym p ∙ ap is_marked e ∙ q in cc

variable_by : (t : Text) (x : Sign) → start_by x t ≡ b.Variable → x ≡ s.Dollar
variable_by t s.Dollar e = refl
variable_by t s.Quote e = cc
variable_by t s.OpenBrace e = cc
variable_by t s.OpenBracket e = cc
variable_by t s.OpenParen e = cc
variable_by t _ e = absurd (not_plain _ b.Variable (plain_is _ _ _) e refl)

pub start_variable : (t : Text) → start t ≡ b.Variable → sign t ≡ s.Dollar
unfolding start
start_variable t e = variable_by t (sign t) e

script_by : (t : Text) (x : Sign) → start_by x t ≡ b.Script → x ≡ s.OpenBracket
script_by t s.OpenBracket e = refl
script_by t s.Quote e = cc
script_by t s.OpenBrace e = cc
script_by t s.Dollar e = cc
script_by t s.OpenParen e = cc
script_by t _ e = absurd (not_plain _ b.Script (plain_is _ _ _) e refl)

pub start_script : (t : Text) → start t ≡ b.Script → sign t ≡ s.OpenBracket
unfolding start
start_script t e = script_by t (sign t) e
