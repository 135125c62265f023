-- What a step of a call answers, where it may leave further texts on the stack, and what the call answers.
use Rattle.std.specs.Prelude.{◌≡◌, ℕ, List, Result, OnOk, IfOk, IfErr}
use Rattle.tclv_model.specs.declared.data_commands.CmdFault.{CmdFault}
use Rattle.tclv_model.specs.Rows.{Answer, Gives}
use Rattle.tclv_value.specs.View.{View}
use Rattle.tclv_value.specs.Changes.{KeepsTexts}
use Rattle.tclv_reply.specs.Replies.{Grows, Refused, IsGiven, IsRefused}

-- The answer gives what the value shows over the texts of the stack, where further texts may stand above those that were there.
pub record IsShown {A T : Type 0} (answer : Answer A) (Shows : A → T → List (List ℕ) → Type 0) (value : T) (old new : View) : Type 0 where
  pub read : A
  pub given : answer ≡ Gives read
  pub shown : Shows read value new.stack
  pub grows : Grows old new

-- a step that reads
pub record Steps {A T : Type 0} (answer : Answer A) (Shows : A → T → List (List ℕ) → Type 0) (old new : View) (result : Result T CmdFault) : Type 0 where
  pub grows : Grows old new
  pub gives : IfOk result (λ value. IsShown answer Shows value old new)
  pub refuses : IfErr result (λ kind. Refused answer kind old.stack new.stack)

-- a step that reads, and leaves texts that nothing else speaks of
pub record Finds {A T : Type 0} (answer : Answer A) (Shows : A → T → Type 0) (old new : View) (result : Result T CmdFault) : Type 0 where
  pub grows : Grows old new
  pub gives : IfOk result (λ value. IsGiven answer Shows value)
  pub refuses : IfErr result (λ kind. Refused answer kind old.stack new.stack)

-- What a call answers that reads its n words, whose row at them is this. On Ok all places have the texts that they had. The cells keep theirs always.
pub record Understands {A T : Type 0} (row : Answer A) (Shows : A → T → Type 0) (n : ℕ) (old new : View) (result : Result T CmdFault) : Type 0 where
  pub gives : IfOk result (λ value. IsGiven row Shows value)
  pub kept : OnOk result (KeepsTexts old new)
  pub refuses : IfErr result (λ kind. IsRefused row kind n old new)
  pub cells : new.cells ≡ old.cells
