-- What contracts see of a procedure.
use Rattle.std.specs.Prelude.{ℕ, Bool, List}
use Rattle.tclv_value.specs.declared.procedures.Param.{Param}

-- its parameters from the left, whether one more takes all words that are left, and its body
pub record Procedure : Type 0 where
  pub params : List Param
  pub rest : Bool
  pub body : List ℕ
