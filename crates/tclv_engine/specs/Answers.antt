-- When a call answers as a computation of the meaning says.
use Rattle.std.specs.Prelude.{◌≡◌, ℕ, ◌+◌, ◌-◌, ◌<◌, ◌≤◌, List, [], ◌∷◌, ◌++◌, length, take, slice_index_or, Option, Some, Result, Ok, Err}
use Rattle.tclv_io.specs.World.{World}
use Rattle.tclv_io.specs.Causes.{Rose}
use Rattle.tclv_io.specs.Events.{Event, after_all, partly, next_length}
use Rattle.tclv_model.specs.declared.outcomes.Code.{Code}
use Rattle.tclv_model.specs.declared.outcomes.Code.TheVariants as code
use Rattle.tclv_model.specs.declared.outcomes.Pair.{Pair}
use Rattle.tclv_engine.specs.declared.endings.Carried.{Carried}
use Rattle.tclv_engine.specs.declared.endings.Leaving.{Leaving}
use Rattle.tclv_engine.specs.declared.endings.Leaving.TheVariants.{Error, Other}
use Rattle.tclv_engine.specs.declared.endings.End.{End}
use Rattle.tclv_engine.specs.declared.endings.End.TheVariants as end
use Rattle.tclv_engine.specs.declared.machine.Machine.{Machine}
use Rattle.tclv_engine.specs.Holdings.{SameVariables}
use Rattle.tclv_engine.specs.State.{Text, State, state_of}
use Rattle.tclv_engine.specs.Results.{Ending, Done, Left, Budget, Exit, Res, Outcome, carried, plain_options, error_options}

-- ---- the stack

-- the top text of a stack
abbrev pub last_of : List Text → Text
last_of stack = slice_index_or stack (length stack - 1) []

-- so many texts stand over `base`
pub record Over (count : ℕ) (base stack : List Text) : Type 0 where
  pub kept : take (length base) stack ≡ base
  pub count_is : length stack ≡ length base + count

-- texts stand over `base`, or none
pub record Keeps (base stack : List Text) : Type 0 where
  pub kept : take (length base) stack ≡ base
  pub some : length base ≤ length stack

-- one text or more stands over `base`
pub record Above (base stack : List Text) : Type 0 where
  pub kept : take (length base) stack ≡ base
  pub some : length base < length stack

-- What a call leaves of the stack, whatever the outside tells: where it is ok, what P says; at a code one text or more over `base`, the
-- topmost of which is the result. After a stop the stack is of no use.
abbrev pub Leaves : {T : Type 0} → (T → List Text → Type 0) → List Text → Result T End → List Text → Type 0
Leaves P base (Ok t) stack = P t stack
Leaves P base (Err (end.Left l)) stack = Above base stack
Leaves P base (Err end.Budget) stack = Unit {0}
Leaves P base (Err (end.Exit n)) stack = Unit {0}
Leaves P base (Err end.Device) stack = Unit {0}
Leaves P base (Err end.Memory) stack = Unit {0}

-- A call that is ok leaves the stack as it was.
abbrev pub KeepsStack : {T : Type 0} → List Text → Result T End → List Text → Type 0
KeepsStack base r stack = Leaves (λ t now. now ≡ base) base r stack

-- A call that is ok pushes one text.
abbrev pub PushesOne : {T : Type 0} → List Text → Result T End → List Text → Type 0
PushesOne base r stack = Leaves (λ t now. Over 1 base now) base r stack

-- A call that is ok pushes texts, or none.
abbrev pub PushesWords : {T : Type 0} → List Text → Result T End → List Text → Type 0
PushesWords base r stack = Leaves (λ t now. Keeps base now) base r stack

-- A call that is ok pushes this text; else memory ran out.
abbrev pub Pushes : {T : Type 0} → Text → List Text → Result T End → List Text → Type 0
Pushes text base (Ok t) stack = stack ≡ base ++ text ∷ []
Pushes text base (Err (end.Left l)) stack = ⊥
Pushes text base (Err end.Budget) stack = ⊥
Pushes text base (Err (end.Exit n)) stack = ⊥
Pushes text base (Err end.Device) stack = ⊥
Pushes text base (Err end.Memory) stack = Unit {0}

-- A call that is ok leaves its result on top, and anything between that and `base`.
abbrev pub PushesResult : {T : Type 0} → List Text → Result T End → List Text → Type 0
PushesResult base r stack = Leaves (λ t now. Above base now) base r stack

-- ---- the outside

-- what is known of the outside at a moment: what it tells, and how many bytes failing writes have taken
pub record Outer : Type 0 where
  pub told : Option World
  pub torn : ℕ

abbrev pub outer : Option World → ℕ → Outer
outer told torn = record { told = told; torn = torn }

-- at each world that is told
abbrev pub AtWorld : Outer → (World → Type 0) → Type 0
AtWorld before P = (w : World) → before.told ≡ Some w → P w

-- where a computation starts: the world, how many bytes failing writes had taken, and how many events there were
pub record Start : Type 0 where
  pub world : World
  pub torn : ℕ
  pub events : ℕ

abbrev pub start : {W : Type 0} → (Machine W) → World → ℕ → Start
start a w torn = record { world = w; torn = torn; events = a.writes }

-- ---- answers

-- the code of what isn't ok, and its options
abbrev pub code_of : Leaving → Code
code_of (Error errorcode) = code.Error
code_of (Other c options) = c

abbrev pub options_of : Leaving → List Pair
options_of (Error errorcode) = error_options errorcode
options_of (Other c options) = carried c options

-- The ending and the state after are those of m, all its events happened, and no write failed.
pub record Ends {W A : Type 0} (m : Res W A) (s : Start) (e : Ending A) (after : (Machine W)) (w : World) (torn : ℕ) : Type 0 where
  pub ending : m.ending ≡ e
  pub state : m.after ≡ state_of after w
  pub out : w.out ≡ after_all s.world.out m.events
  pub whole : torn ≡ s.torn
  pub counted : after.writes ≡ s.events + length m.events

-- The first events of m happened, and `part` bytes of the next, which are what a failed write took.
pub record Cut {W A : Type 0} (m : Res W A) (s : Start) (part : ℕ) (after : (Machine W)) (w : World) (torn : ℕ) : Type 0 where
  pub first : List Event
  pub rest : List Event
  pub split : m.events ≡ first ++ rest
  pub out : w.out ≡ partly part (after_all s.world.out first) rest
  pub within : part ≤ next_length rest
  pub part_is : torn ≡ s.torn + part
  pub counted : after.writes ≡ s.events + length first

-- m ends with a value, which shows in the code by what the call returns and by the stack
pub record Gives {W A T : Type 0} (m : Res W A) (shows : A → T → List Text → Type 0) (s : Start) (t : T) (after : (Machine W)) (w : World) (torn : ℕ) : Type 0 where
  pub value : A
  pub ends : Ends m s (Done value) after w torn
  pub shown : shows value t after.values.store.stack

-- what each answer says: a device's fault or want of memory cuts m short
abbrev pub Says : {W A T : Type 0} → Res W A → (A → T → List Text → Type 0) → Start → Result T End → (Machine W) → World → ℕ → Type 0
Says m shows s (Ok t) after w torn = Gives m shows s t after w torn
Says m shows s (Err (end.Left l)) after w torn = Ends m s (Left (code_of l) (last_of after.values.store.stack) (options_of l)) after w torn
Says m shows s (Err end.Budget) after w torn = Ends m s Budget after w torn
Says m shows s (Err (end.Exit n)) after w torn = Ends m s (Exit n) after w torn
Says m shows s (Err end.Device) after w torn = (part : ℕ) × Cut m s part after w torn
Says m shows s (Err end.Memory) after w torn = Cut m s 0 after w torn

-- The call answers as m says, from a world that was told, and the outside still tells.
pub record Runs {W A T : Type 0} (m : Res W A) (shows : A → T → List Text → Type 0) (s : Start) (r : Result T End) (after : (Machine W)) (now : Outer) : Type 0 where
  pub world : World
  pub told : now.told ≡ Some world
  pub says : Says m shows s r after world now.torn

-- A call that touches no outside answers as m says, whatever the outside tells.
abbrev pub Answers : {W A T : Type 0} → ((State W) → Res W A) → (A → T → List Text → Type 0) → (Machine W) → Result T End → (Machine W) → Type 0
Answers m shows old r new = (here : Outer) → AtWorld here (λ w. Runs (m (state_of old w)) shows (start old w here.torn) r new here)

-- A call over an outside answers as m says, where the outside tells.
abbrev pub AnswersOver : {W A T : Type 0} → ((State W) → Res W A) → (A → T → List Text → Type 0) → (Machine W) → Outer → Result T End → (Machine W) → Outer → Type 0
AnswersOver m shows old before r new now = AtWorld before (λ w. Runs (m (state_of old w)) shows (start old w before.torn) r new now)

-- ---- how values show

-- the call returns the value itself
abbrev pub returned : {A : Type 0} → A → A → List Text → Type 0
returned a t stack = t ≡ a

-- the value is the top text of the stack
abbrev pub on_top : Text → Unit {0} → List Text → Type 0
on_top text t stack = last_of stack ≡ text

-- the values are those of the stack over `base`
abbrev pub stacked : List Text → List Text → Unit {0} → List Text → Type 0
stacked base texts t stack = stack ≡ base ++ texts

-- an outcome's text is the top text of the stack, and its options are those that the call returns
abbrev pub as_outcome : Outcome → Carried → List Text → Type 0
as_outcome o kept stack = (last_of stack ≡ o.text) × (o.options ≡ carried code.Ok kept)

-- an outcome's text is the top text of the stack; it keeps no options of its own
abbrev pub as_result : Outcome → Unit {0} → List Text → Type 0
as_result o t stack = (last_of stack ≡ o.text) × (o.options ≡ plain_options)

-- ---- errors

-- Nothing changed but the stack.
pub record SameState {W : Type 0} (old new : (Machine W)) : Type 0 where
  pub variables : SameVariables old.values new.values
  pub own : new.own ≡ old.own
  pub units : new.units ≡ old.units
  pub depth : new.depth ≡ old.depth
  pub events : new.writes ≡ old.writes

-- an error with this text, which is on top of the stack, and this error code; or memory ran out
abbrev pub Raises : Text → Text → List Text → End → Type 0
Raises text errorcode stack (end.Left (Error c)) = (c ≡ errorcode) × (last_of stack ≡ text)
Raises text errorcode stack (end.Left (Other c options)) = ⊥
Raises text errorcode stack end.Budget = ⊥
Raises text errorcode stack (end.Exit n) = ⊥
Raises text errorcode stack end.Device = ⊥
Raises text errorcode stack end.Memory = Unit {0}

-- a code, and the empty text, which is on top of the stack; or memory ran out
abbrev pub LeavesEmpty : Leaving → List Text → End → Type 0
LeavesEmpty code stack (end.Left l) = (l ≡ code) × (last_of stack ≡ [])
LeavesEmpty code stack end.Budget = ⊥
LeavesEmpty code stack (end.Exit n) = ⊥
LeavesEmpty code stack end.Device = ⊥
LeavesEmpty code stack end.Memory = Unit {0}

-- ---- causes

-- the count of faults rose where a device ended the call, and else it stays
abbrev pub Caused : {T : Type 0} → ℕ → ℕ → Result T End → Type 0
Caused before now (Ok t) = now ≡ before
Caused before now (Err (end.Left l)) = now ≡ before
Caused before now (Err end.Budget) = now ≡ before
Caused before now (Err (end.Exit n)) = now ≡ before
Caused before now (Err end.Device) = (before ≤ now) × Rose before now
Caused before now (Err end.Memory) = now ≡ before

-- a call that touches no outside
abbrev pub IsCalm : {T : Type 0} → Result T End → Type 0
IsCalm r = Caused 0 0 r

-- A script that ended with a code left its result above this height.
abbrev pub HasResult : {T : Type 0} → ℕ → Result T End → List Text → Type 0
HasResult height (Ok t) stack = height < length stack
HasResult height (Err (end.Left l)) stack = height < length stack
HasResult height (Err end.Budget) stack = Unit {0}
HasResult height (Err (end.Exit n)) stack = Unit {0}
HasResult height (Err end.Device) stack = Unit {0}
HasResult height (Err end.Memory) stack = Unit {0}
