-- The result of an expression.
use Rattle.std.proofs.Common.{◌≡◌, List, ap, Result}
use Rattle.std.specs.Prelude.{ℤ}
use Rattle.tclv_text.specs.declared.numbers.WholeFault.{WholeFault}
use Rattle.tclv_text.specs.Numbers.{whole}
use Rattle.tclv_engine.specs.State.{Text, State}
use Rattle.tclv_engine.specs.Answers.{last_of}
use Rattle.tclv_engine.specs.Expressions.{settled_by, settled}

pub settled_is : {W : Type 0} → (x : Text) (r : Result ℤ WholeFault) (st : (State W)) → r ≡ whole x → settled_by x r st ≡ settled x st
settled_is x r st e = ap (λ y. settled_by x y st) e

pub last_kept : (now stack : List Text) → now ≡ stack → last_of now ≡ last_of stack
last_kept now stack e = ap last_of e
