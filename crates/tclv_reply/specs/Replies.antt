-- What a call of a data command answers, and what it leaves of the store.
use Rattle.std.specs.Prelude.{◌≡◌, ℕ, ◌-◌, List, [], ◌∷◌, ◌++◌, ◌<◌, length, take, Result, Ok, Err, OnOk, OnErr, IfOk, IfErr, slice_index_or}
use Rattle.std.specs.Option.{option_map_or}
use Rattle.std.specs.Ordering.{nat_cmp}
use Rattle.std.specs.FinMap.{FinMap, get, insert}
use Rattle.tclv_model.specs.declared.data_commands.CmdFault.{CmdFault}
use Rattle.tclv_model.specs.declared.data_commands.CmdFault.TheVariants as fault
use Rattle.tclv_model.specs.declared.data_commands.VarState.{VarState}
use Rattle.tclv_model.specs.declared.data_commands.VarState.TheVariants as var
use Rattle.tclv_model.specs.Rows.{Answer, Gives, Refuses, RowAnswer, VarAnswer, Variable, Holds, Unset, WholeArray, PlainElement, Homeless}
use Rattle.tclv_model.specs.Values.{list_of}
use Rattle.tclv_value.specs.View.{View, StaysMade, KeepsMade}
use Rattle.tclv_value.specs.Stacks.{top, under}
use Rattle.tclv_value.specs.Changes.{KeepsTexts}

-- the word of a call that has n words after it
abbrev pub call_word : ℕ → List (List ℕ) → List ℕ
call_word n stack = slice_index_or stack (length stack - n - 1) []

-- The row gives a result, which stands in place of the n words.
pub record Results (row : RowAnswer) (n : ℕ) (old new : View) : Type 0 where
  pub text : List ℕ
  pub given : row ≡ Gives text
  pub stack : new.stack ≡ under n old.stack ++ text ∷ []

-- The row refuses, and its message and its error code stand in place of the n words.
pub record Declines {A : Type 0} (row : Answer A) (kind : CmdFault) (n : ℕ) (old new : View) : Type 0 where
  pub message : List ℕ
  pub code : List ℕ
  pub refused : row ≡ Refuses kind message code
  pub stack : new.stack ≡ under n old.stack ++ message ∷ code ∷ []

-- A call that is refused with this fault: the row refuses so, or memory ran out, and all places have the texts that they had.
abbrev pub IsRefused : {A : Type 0} → Answer A → CmdFault → ℕ → View → View → Type 0
IsRefused row fault.NoMemory n old new = KeepsTexts old new
IsRefused row kind n old new = Declines row kind n old new

-- What a call of a data command answers whose row, at its n words, is this. The cells keep their texts.
pub record Answers (row : RowAnswer) (n : ℕ) (old new : View) (result : Result (Unit {0}) CmdFault) : Type 0 where
  pub gives : OnOk result (Results row n old new)
  pub refuses : IfErr result (λ kind. IsRefused row kind n old new)
  pub cells : new.cells ≡ old.cells

-- A command that is handed a variable has a name for it exactly where it has words.
abbrev pub HasName : VarState → ℕ → Type 0
HasName var.NoName n = n ≡ 0
HasName _ n = 0 < n

-- what a command knows of the variable
abbrev pub variable_of : VarState → View → Variable
variable_of var.NoName v = Unset
variable_of (var.Cell cell) v = option_map_or Holds (get v.cells cell) Unset
variable_of var.IsArray v = WholeArray
variable_of var.NotArray v = PlainElement
variable_of var.NoParent v = Homeless

-- the cells after the variable got a text
abbrev pub cells_with : VarState → FinMap nat_cmp (List ℕ) → List ℕ → FinMap nat_cmp (List ℕ)
cells_with (var.Cell cell) cells t = insert cells cell t
cells_with _ cells t = cells

-- The row gives a result, which stands in place of the n words, and a text, which the variable has.
pub record Changes (row : VarAnswer) (variable : VarState) (n : ℕ) (old new : View) : Type 0 where
  pub text : List ℕ
  pub kept : List ℕ
  pub given : row ≡ Gives (text, kept)
  pub stack : new.stack ≡ under n old.stack ++ text ∷ []
  pub cells : new.cells ≡ cells_with variable old.cells kept

-- What a call of a data command answers whose row, at its n words and its variable, is this. After a refusal the cells have the texts that they had.
pub record VarAnswers (row : VarAnswer) (variable : VarState) (n : ℕ) (old new : View) (result : Result (Unit {0}) CmdFault) : Type 0 where
  pub gives : OnOk result (Changes row variable n old new)
  pub refuses : IfErr result (λ kind. IsRefused row kind n old new)
  pub kept : OnErr result (new.cells ≡ old.cells)

-- Steps of a call. They leave further texts on the stack, and all other places as they were.
pub record Grows (old new : View) : Type 0 where
  pub more : List (List ℕ)
  pub stack : new.stack ≡ old.stack ++ more
  pub cells : new.cells ≡ old.cells
  pub stays : StaysMade old new

-- Texts were pushed, and these are on top.
pub record EndsIn (texts old new : List (List ℕ)) : Type 0 where
  pub between : List (List ℕ)
  pub is : new ≡ old ++ (between ++ texts)

-- A step whose answer is refused with this fault, where the message and the code are on top.
pub record IsRefusal {A : Type 0} (answer : Answer A) (kind : CmdFault) (old new : List (List ℕ)) : Type 0 where
  pub message : List ℕ
  pub code : List ℕ
  pub refused : answer ≡ Refuses kind message code
  pub top : EndsIn (message ∷ code ∷ []) old new

-- The same where memory may have run out, which says nothing of the answer.
abbrev pub Refused : {A : Type 0} → Answer A → CmdFault → List (List ℕ) → List (List ℕ) → Type 0
Refused answer fault.NoMemory old new = Unit {0}
Refused answer kind old new = IsRefusal answer kind old new

-- A step is refused as it was to be, with this fault, message and code, or memory ran out.
pub record IsTold (kind told : CmdFault) (texts old new : List (List ℕ)) : Type 0 where
  pub same : told ≡ kind
  pub top : EndsIn texts old new

abbrev pub Tells : CmdFault → CmdFault → List (List ℕ) → List (List ℕ) → List (List ℕ) → Type 0
Tells kind fault.NoMemory texts old new = Unit {0}
Tells kind told texts old new = IsTold kind told texts old new

-- the answer's value, shown by the code's
pub record IsGiven {A T : Type 0} (answer : Answer A) (Shows : A → T → Type 0) (value : T) : Type 0 where
  pub read : A
  pub given : answer ≡ Gives read
  pub shown : Shows read value

-- A step that reads: on Ok it gives the answer's value, and the stack stays.
pub record Reads {A T : Type 0} (answer : Answer A) (Shows : A → T → Type 0) (old new : View) (result : Result T CmdFault) : Type 0 where
  pub grows : Grows old new
  pub kept : OnOk result (new.stack ≡ old.stack)
  pub gives : IfOk result (λ value. IsGiven answer Shows value)
  pub refuses : IfErr result (λ kind. Refused answer kind old.stack new.stack)

-- The elements of the list that the text t is were pushed.
pub record IsUnpacked (t : List ℕ) (old new : List (List ℕ)) : Type 0 where
  pub elements : List (List ℕ)
  pub given : list_of t ≡ Gives elements
  pub stack : new ≡ old ++ elements

-- A step that pushes the elements of the list that the text t is.
pub record Unpacks (t : List ℕ) (old new : View) (result : Result (Unit {0}) CmdFault) : Type 0 where
  pub grows : Grows old new
  pub gives : OnOk result (IsUnpacked t old.stack new.stack)
  pub refuses : IfErr result (λ kind. Refused {A = List (List ℕ)} (list_of t) kind old.stack new.stack)

-- the answer's result, on top
pub record IsOnTop (answer : RowAnswer) (old new : List (List ℕ)) : Type 0 where
  pub text : List ℕ
  pub given : answer ≡ Gives text
  pub top : EndsIn (text ∷ []) old new

-- A step that leaves the answer's result on top.
pub record Leaves (answer : RowAnswer) (old new : View) (result : Result (Unit {0}) CmdFault) : Type 0 where
  pub grows : Grows old new
  pub gives : OnOk result (IsOnTop answer old.stack new.stack)
  pub refuses : IfErr result (λ kind. Refused answer kind old.stack new.stack)

-- how many texts on top the steps of a call leave for the one that called: a result, or a message and a code
abbrev pub left_count : Result (Unit {0}) CmdFault → ℕ
left_count (Ok _) = 1
left_count (Err fault.NoMemory) = 0
left_count (Err _) = 2

-- what a refused step leaves of a stack: after want of memory, what was there at first
abbrev pub left_over : CmdFault → ℕ → List (List ℕ) → List (List ℕ)
left_over fault.NoMemory height stack = take height stack
left_over _ height stack = stack

-- The stack up to a place, and then so many texts that were on top.
abbrev pub gathered : ℕ → ℕ → List (List ℕ) → List (List ℕ)
gathered base count stack = take base stack ++ top count stack

-- what is left of a stack, of which so much was there before the steps, when what they left stands in place of the n words
abbrev pub settled_stack : ℕ → ℕ → Result (Unit {0}) CmdFault → List (List ℕ) → List (List ℕ)
settled_stack n height (Err fault.NoMemory) stack = take height stack
settled_stack n height (Ok _) stack = gathered (height - n) 1 stack
settled_stack n height (Err _) stack = gathered (height - n) 2 stack

pub record Settles (n height : ℕ) (done : Result (Unit {0}) CmdFault) (old new : View) : Type 0 where
  pub stack : new.stack ≡ settled_stack n height done old.stack
  pub cells : new.cells ≡ old.cells
  pub stays : done ≡ Err fault.NoMemory → KeepsMade old new
