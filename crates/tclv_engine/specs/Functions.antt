-- What the functions of expressions give.
use Rattle.std.specs.Prelude.{ℕ, if◌then◌else◌, List, [], ◌∷◌, Option, Some, None, Ok, ℤ, pos, neg_ℤ, int_lt, codes}
use Rattle.std.specs.Str.{bytes_eq}
use Rattle.tclv_exprp.specs.Operators.{Answer, fit}
use Rattle.tclv_model.specs.declared.messages.MessageId.TheVariants as message
use Rattle.tclv_model.specs.declared.error_codes.ErrorCode.TheVariants.{NoCode}
use Rattle.tclv_engine.specs.declared.functions.Function.{Function}
use Rattle.tclv_engine.specs.declared.functions.Function.TheVariants as f
use Rattle.tclv_engine.specs.declared.functions.Pick.{Pick}
use Rattle.tclv_engine.specs.declared.functions.Pick.TheVariants as p
use Rattle.tclv_engine.specs.State.{Text, State}
use Rattle.tclv_engine.specs.Results.{Res, bind, raise}
use Rattle.tclv_engine.specs.Names.{bytes_of}
use Rattle.tclv_engine.specs.Operations.{number, truth_number, operand, truth_of, calculated}

-- the function of a name, given as bytes
abbrev pub function_of : List ℕ → Option Function
function_of name =
    if bytes_eq name (codes "abs") then Some f.Absolute else (
    if bytes_eq name (codes "bool") then Some f.Truth else (
    if bytes_eq name (codes "entier") then Some f.Whole else (
    if bytes_eq name (codes "int") then Some f.Whole else (
    if bytes_eq name (codes "max") then Some f.Greatest else (
    if bytes_eq name (codes "min") then Some f.Least else (
    if bytes_eq name (codes "wide") then Some f.Whole else None))))))

-- the one of two numbers that is picked
abbrev pub picked_of : Pick → ℤ → ℤ → ℤ
picked_of p.Greater m n = if int_lt m n then n else m
picked_of p.Less m n = if int_lt n m then n else m

-- what is picked of m and further arguments, from left to right
unfoldable pub picked : {W : Type 0} → Pick → Text → ℤ → List Text → (State W) → Res W Text
picked pick name m [] st = number m st
picked pick name m (x ∷ xs) st = bind (operand name x st) (λ n s1. picked pick name (picked_of pick m n) xs s1)

abbrev pub wrong_count : {W : Type 0} → Text → (State W) → Res W Text
wrong_count name st = raise message.WrongMathFunctionArguments name [] NoCode st

-- `max` and `min`: arguments are looked at from left to right.
abbrev pub extreme : {W : Type 0} → Pick → Text → List Text → (State W) → Res W Text
extreme pick name [] st = wrong_count name st
extreme pick name (x ∷ xs) st = bind (operand name x st) (λ m s1. picked pick name m xs s1)

-- a number without its sign
abbrev pub size : ℤ → Answer
size m = if int_lt m (pos 0) then fit (neg_ℤ m) else Ok m

-- what a function gives of its arguments
abbrev pub apply : {W : Type 0} → Function → Text → List Text → (State W) → Res W Text
apply f.Absolute name (x ∷ []) st = bind (operand name x st) (λ n s1. calculated (size n) s1)
apply f.Whole name (x ∷ []) st = bind (operand name x st) number
apply f.Truth name (x ∷ []) st = bind (truth_of x st) truth_number
apply f.Greatest name xs st = extreme p.Greater name xs st
apply f.Least name xs st = extreme p.Less name xs st
apply _ name xs st = wrong_count name st

abbrev pub call_by : {W : Type 0} → Option Function → Text → List Text → (State W) → Res W Text
call_by (Some function) name xs st = apply function name xs st
call_by None name xs st = raise message.UnknownMathFunction name [] NoCode st

-- A call of a function by its name.
abbrev pub call : {W : Type 0} → Text → List Text → (State W) → Res W Text
call name xs st = call_by (function_of (bytes_of name)) name xs st
