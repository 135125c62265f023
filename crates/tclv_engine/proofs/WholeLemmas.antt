-- The number that a text is, by what reading it gave.
use Rattle.std.proofs.Common.{◌≡◌, sym, ap, subst, Result}
use Rattle.std.specs.Prelude.{ℤ}
use Rattle.tclv_text.specs.declared.numbers.WholeFault.{WholeFault}
use Rattle.tclv_text.specs.Numbers.{whole}
use Rattle.tclv_value.specs.declared.faults.ValueFault.{ValueFault}
use Rattle.tclv_value.specs.Answers.{RefusesWhole}
use Rattle.tclv_engine.specs.State.{Text, State}
use Rattle.tclv_engine.specs.WholeNumbers.{read_whole, whole_number}

pub whole_read : {W : Type 0} → (text : Text) (r : Result ℤ WholeFault) (st : (State W)) → whole text ≡ r → read_whole text r st ≡ whole_number text st
whole_read text r st e = ap (λ x. read_whole text x st) (sym e)

-- a refusal, where the fault is known by an equation
pub refused_as : (f g : ValueFault) (answer : Result ℤ WholeFault) → f ≡ g → RefusesWhole f answer → RefusesWhole g answer
refused_as f g answer e h = subst (λ x. RefusesWhole x answer) e h
