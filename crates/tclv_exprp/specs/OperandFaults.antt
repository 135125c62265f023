-- The fault where an operand must begin and none does.
use Rattle.std.specs.Prelude.{◌≡◌, ◌≢◌, ℕ, suc, ◌<◌, ◌++◌, take, drop, length, Ok, Err}
use Rattle.tclv_parse.specs.Runs.{Text}
use Rattle.tclv_parse.specs.Grammar.{place}
use Rattle.tclv_exprp.specs.declared.faults.Fault.{Fault}
use Rattle.tclv_exprp.specs.declared.faults.Fault.TheVariants.{Syntax}
use Rattle.tclv_exprp.specs.declared.operands.Begins.TheVariants as b
use Rattle.tclv_exprp.specs.declared.tree.ExprTree.{ExprTree}
use Rattle.tclv_exprp.specs.Fronts.{blanks}
use Rattle.tclv_exprp.specs.Operands.{start, half_len}
use Rattle.tclv_exprp.specs.ExpressionGrammar.{Readers, readers}

-- the readers of operands, of powers and of expressions have this fault at the text
pub record FailWith (r : Readers) (t : Text) (e : Fault) : Type 0 where
  pub operand : r.0 t ≡ Err e
  pub power : r.1 t ≡ Err e
  pub expression : r.2 t ≡ Err e

-- none of them reads anything from its front
pub record ReadNothing (r : Readers) (t : Text) : Type 0 where
  pub operand : (p : ExprTree × Text) → r.0 t ≢ Ok p
  pub power : (p : ExprTree × Text) → r.1 t ≢ Ok p
  pub expression : (p : ExprTree × Text) → r.2 t ≢ Ok p

-- Behind the white space of t stands u, which begins no operand. Its first n characters could still begin one, or white space.
pub record MissesOperand (t u : Text) (n : ℕ) : Type 0 where
  -- the fault is Syntax, at the character behind them, or at the end
  pub fault : (total room : ℕ) → FailWith (readers total room) t (Syntax (place total (drop n u)))
  -- no expression begins with them and that character, whatever comes behind it
  pub none : n < length u → (total room : ℕ) (rest : Text) → ReadNothing (readers total room) (take (suc n) u ++ rest)
  -- with them alone an operand begins, or white space before one, if the right characters come behind
  pub some : (rest : Text) × (start (blanks (take n u ++ rest)) ≢ b.Other)

-- Where an operand must begin and none does, the fault names the first character that no expression can have there.
abbrev pub FaultsOfOperands : Type 0
FaultsOfOperands = (t : Text) → start (blanks t) ≡ b.Other → MissesOperand t (blanks t) (half_len (blanks t))
