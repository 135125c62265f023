-- Computations that are the same where few units are left.
use Rattle.std.proofs.Common.{List, ◌≡◌, ◌≤◌, ◌<◌, ◌-◌, ◌++◌, ℕ, zero, suc, arith, refl, subst, ap, ◌∙◌, Bool, true, false, if◌then◌else◌, None, Result, Ok, Err}
use Rattle.tclv_parse.specs.declared.tree.Script.{Script}
use Rattle.tclv_vars.specs.declared.faults.VarFault.{VarFault}
use Rattle.tclv_vars.specs.Table.{Spot}
use Rattle.tclv_engine.specs.State.{Text, State}
use Rattle.tclv_engine.specs.Results.{Ending, Done, Left, Budget, Exit, Res, ends, go_on, bind}
use Rattle.tclv_reply.specs.Names.{is_qualified, naming, element_of}
use Rattle.tclv_engine.specs.Names.{bytes_of, read_named, write_named}
use Rattle.tclv_engine.specs.Units.{take_unit}
use Rattle.tclv_engine.specs.Variables.{is_unbuilt, read_cell, variable, element_name, element_value, write_cell, assign}
use Rattle.tclv_engine.specs.Words.{Evaluator}
use Rattle.tclv_engine.proofs.UnitLemmas.{no_unit, some_unit}

-- Two computations are the same, and at most n units are left after them.
pub record Same {W A : Type 0} (n : ℕ) (m m' : Res W A) : Type 0 where
  pub same : m ≡ m'
  pub left : m.after.units ≤ n

-- so it is from each state with at most n units
abbrev pub Agree : {W A : Type 0} → ℕ → ((State W) → Res W A) → ((State W) → Res W A) → Type 0
Agree n f f' = (st : (State _)) → st.units ≤ n → Same n (f st) (f' st)

-- and with each script, and all words
pub record EvaluatorsAgree {W : Type 0} (n : ℕ) (ev ev' : (Evaluator W)) : Type 0 where
  pub scripts : (s : Script) → Agree n (ev.script s) (ev'.script s)
  pub words : (ws : List Text) → Agree n (ev.words ws) (ev'.words ws)

-- A computation that leaves at most n units is the same as itself.
pub with_itself : {W A : Type 0} {n : ℕ} {m : Res W A} → m.after.units ≤ n → Same n m m
with_itself u = record { same = refl; left = u }

pub if_same : {W A : Type 0} {n : ℕ} {m m' k k' : Res W A} (b : Bool) → Same n m m' → Same n k k' → Same n (if b then m else k) (if b then m' else k')
if_same true h i = h
if_same false h i = i

-- ---- one computation and then another

go_on-same : {W A B : Type 0} (n : ℕ) (e : Ending A) (st : (State W)) (next next' : A → (State W) → Res W B) → st.units ≤ n →
    ((a : A) → Agree n (next a) (next' a)) → Same n (go_on e st next) (go_on e st next')
go_on-same n (Done a) st next next' u k = k a st u
go_on-same n (Left c text options) st next next' u k = with_itself u
go_on-same n Budget st next next' u k = with_itself u
go_on-same n (Exit status) st next next' u k = with_itself u

pub bind_same : {W A B : Type 0} {n : ℕ} {m m' : Res W A} {next next' : A → (State W) → Res W B} → Same n m m' →
    ((a : A) → Agree n (next a) (next' a)) → Same n (bind m next) (bind m' next')
unfolding bind
bind_same {A = A} {B = B} {n = n} {m = m} {m' = m'} {next = next} {next' = next'} h k =
    let second = go_on-same n m.ending m.after next next' h.left k in
    let put : Res _ B → Res _ B = λ r. record r { events = m.events ++ r.events } in
    let whole : Res _ A → Res _ B = λ x. bind x next' in
    record { same = ap put second.same ∙ ap whole h.same; left = second.left }

pub more_units : {W A : Type 0} {k n : ℕ} {m m' : Res W A} → k ≤ n → Same k m m' → Same n m m'
more_units l h = record { same = h.same; left = omega (arith, l, h.left) }

-- ---- units

no_unit-same : {W B : Type 0} (n : ℕ) (next next' : Unit {0} → (State W) → Res W B) (st : (State W)) → st.units ≤ n → Same n (bind (ends Budget st) next) (bind (ends Budget st) next')
unfolding bind
no_unit-same n next next' st u = with_itself u

unit-same : {W B : Type 0} (units n : ℕ) (next next' : Unit {0} → (State W) → Res W B) (st : (State W)) → st.units ≡ units → st.units ≤ n →
    ((k : ℕ) → k < n → (a : Unit {0}) → Agree k (next a) (next' a)) → Same n (bind (take_unit st) next) (bind (take_unit st) next')
unit-same zero n next next' st e u h =
    let P : Res _ (Unit {0}) → Type 0 = λ m. Same n (bind m next) (bind m next') in
    subst P (no_unit st e) (no_unit-same n next next' st u)
unit-same (suc k) n next next' st e u h =
    let P : Res _ (Unit {0}) → Type 0 = λ m. Same n (bind m next) (bind m next') in
    let now : (State _) = record st { units = st.units - 1 } in
    let left : now.units ≤ k = omega (arith, e) in
    let more : k ≤ n = omega (arith, e, u) in
    subst P (some_unit st (λ z. omega (arith, e, z))) (more_units more (bind_same (with_itself left) (h k (omega (arith, e, u)))))

-- A unit is taken first, so that fewer are left behind it.
pub unit_same : {W B : Type 0} (n : ℕ) (next next' : Unit {0} → (State W) → Res W B) (st : (State W)) → st.units ≤ n →
    ((k : ℕ) → k < n → (a : Unit {0}) → Agree k (next a) (next' a)) → Same n (bind (take_unit st) next) (bind (take_unit st) next')
unit_same n next next' st u h = unit-same st.units n next next' st refl u h

-- ---- variables

read_cell-same : {W : Type 0} → (n : ℕ) (name : Text) (r : Result ℕ VarFault) → Agree {W = W} n (read_cell name r) (read_cell name r)
read_cell-same n name (Ok cell) st u = with_itself u
read_cell-same n name (Err f) st u = with_itself u

pub variable_same : {W : Type 0} → (n : ℕ) (name : Text) → Agree {W = W} n (variable name) (variable name)
variable_same n name st u = if_same (is_unbuilt (bytes_of name)) (with_itself u) (read_cell-same n name (read_named st.tables.vars (naming (bytes_of name))) st u)

pub element_value_same : {W : Type 0} → (n : ℕ) (array index : Text) → Agree {W = W} n (element_value array index) (element_value array index)
element_value_same n array index st u =
    if_same (is_qualified (bytes_of array)) (with_itself u) (read_cell-same n (element_name array index) (read_named st.tables.vars (element_of (bytes_of array) (bytes_of index))) st u)

write_cell-same : {W : Type 0} → (n : ℕ) (name value : Text) (r : Result Spot VarFault) → Agree {W = W} n (write_cell name value r) (write_cell name value r)
write_cell-same n name value (Ok spot) st u = with_itself u
write_cell-same n name value (Err f) st u = with_itself u

pub assign_same : {W : Type 0} → (n : ℕ) (name value : Text) → Agree {W = W} n (assign name value) (assign name value)
assign_same n name value st u = if_same (is_unbuilt (bytes_of name)) (with_itself u) (write_cell-same n name value (write_named st.tables.vars (naming (bytes_of name))) st u)
