-- The functions of expressions.
use Rattle.std.specs.Prelude.{ℕ, Bool, ◌||◌, ◌==◌, nat_lt, if◌then◌else◌, Option, Some, None, codes}
use Rattle.std.specs.Str.{bytes_eq}
use Rattle.tclv_parse.specs.Runs.{Text}
use Rattle.tclv_exprp.specs.declared.functions.Count.{Count}
use Rattle.tclv_exprp.specs.declared.functions.Count.TheVariants.{One, OneOrMore}

-- how many arguments a function takes, if there is one of this name
unfoldable pub arity : Text → Option Count
arity t =
    if bytes_eq t (codes "abs") || bytes_eq t (codes "bool") || bytes_eq t (codes "entier") || bytes_eq t (codes "int") || bytes_eq t (codes "wide") then Some One
    else (if bytes_eq t (codes "max") || bytes_eq t (codes "min") then Some OneOrMore
    else None)

abbrev pub takes : Count → ℕ → Bool
takes One n = n == 1
takes OneOrMore n = nat_lt 0 n
