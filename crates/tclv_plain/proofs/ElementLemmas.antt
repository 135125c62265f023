-- An element of an array that is set.
use Rattle.std.proofs.Common.{◌≡◌, ℕ, ◌+◌, ◌-◌, ◌<◌, ◌++◌, List, [], ◌∷◌, length, take, get_or, sym, ap, ◌∙◌, refl, subst, arith, Ok, Err, Some, true, false, Bool, take-take, length-take, length-append}
use Rattle.std.proofs.lemmas.Bool.{cond-true, cond-false}
use Rattle.std.proofs.lemmas.List.{append_assoc, get_or_push, get_or_append_left}
use Rattle.std.proofs.Math.Seq.{take-append_seam}
use Rattle.tclv_io.specs.World.{World}
use Rattle.tclv_vars.specs.declared.places.Place.TheVariants as place
use Rattle.tclv_vars.specs.declared.places.Missing.{Missing}
use Rattle.tclv_vars.specs.declared.faults.VarFault.{VarFault}
use Rattle.tclv_vars.specs.declared.faults.VarFault.TheVariants as fault
use Rattle.tclv_vars.specs.Sound.{Sound}
use Rattle.tclv_vars.specs.Table.{Table, Refuses}
use Rattle.tclv_vars.specs.Undo.{FreshWrite, missing}
use Rattle.std.specs.Bool.{IsTrue}
use Rattle.tclv_value.specs.View.{View, IsMade, KeepsMade}
use Rattle.tclv_value.specs.declared.places.At.TheVariants.{Stack}
use Rattle.tclv_model.specs.Message.{text_of}
use Rattle.tclv_model.specs.ErrorCodes.{error_code}
use Rattle.tclv_model.specs.declared.error_codes.ErrorCode.TheVariants.{NoCode}
use Rattle.tclv_reply.specs.Names.{is_qualified, element_of}
use Rattle.tclv_engine.specs.declared.endings.End.{End}
use Rattle.tclv_engine.specs.declared.machine.Machine.{Machine}
use Rattle.tclv_engine.specs.Holdings.{Holdings, Assigned, SameVariables}
use Rattle.tclv_engine.specs.Names.{bytes_of, write_named}
use Rattle.tclv_engine.specs.State.{Text, State, state_of, variables_in, with_variables}
use Rattle.tclv_engine.specs.Results.{done}
use Rattle.tclv_engine.specs.Variables.{not_built, write_cell, element_name, setting_message, RefusesSetting}
use Rattle.tclv_engine.specs.ListAssignment.{unseen}
use Rattle.tclv_engine.specs.Answers.{Outer, Runs, SameState, Raises, last_of}
use Rattle.tclv_engine.proofs.Binds.{runs_as}
use Rattle.tclv_engine.proofs.Leaves.{raise_runs, memory_runs}
use Rattle.tclv_plain.specs.ArrayRows.{assign_element}

-- ---- taking the write back

pub fresh_element : (t now : Table) (a1 i1 a2 i2 a3 i3 : List ℕ) (cell : ℕ) (fresh : Bool) (lacked : Missing) →
    write_named t (element_of a2 i2) ≡ Ok (record { cell = cell; fresh = fresh; after = now }) → fresh ≡ true → lacked ≡ missing t place.Frame a1 (Some i1) → Sound t → a3 ≡ a1 → a3 ≡ a2 → i3 ≡ i1 → i3 ≡ i2 →
    FreshWrite t place.Frame a3 (Some i3) lacked now
fresh_element t now a1 i1 a2 i2 a3 i3 cell fresh lacked w f l s e d p q = record {
  cell = cell;
  wrote = ap (λ a. write_named t (element_of a i3)) d ∙ ap (λ i. write_named t (element_of a2 i)) q ∙ w ∙ ap (λ v. Ok (record { cell = cell; fresh = v; after = now })) f;
  lacks = l ∙ ap (λ a. missing t place.Frame a (Some i1)) (sym e) ∙ ap (λ i. missing t place.Frame a3 (Some i)) (sym p);
  sound = s;
}

-- ---- by the name of the array

module _ {W : Type 0} (bs : List ℕ) (array index value : Text) (st : State W) (e : bs ≡ bytes_of array) where
  pub element-set_unbuilt : is_qualified bs ≡ true → not_built st ≡ assign_element array index value st
  element-set_unbuilt h = let t : is_qualified (bytes_of array) ≡ true = sym (ap is_qualified e) ∙ h in sym (cond-true _ _ _ t)

  pub element-set : is_qualified bs ≡ false → write_cell (element_name array index) value (write_named (variables_in st) (element_of (bytes_of array) (bytes_of index))) st ≡ assign_element array index value st
  element-set h = let t : is_qualified (bytes_of array) ≡ false = sym (ap is_qualified e) ∙ h in sym (cond-false _ _ _ t)

-- what was written
pub element_written : {W : Type 0} → (old : Machine W) (set new : Holdings) (array index : Text) (cell : ℕ) (w : World) → Assigned old.values set (element_of (bytes_of array) (bytes_of index)) cell → SameVariables set new →
    done (last_of old.values.store.stack) (state_of (record old { values = new }) w)
    ≡ write_cell (element_name array index) (last_of old.values.store.stack) (write_named old.values.vars (element_of (bytes_of array) (bytes_of index))) (state_of old w)
element_written old set new array index cell w h k =
    let value = last_of old.values.store.stack in
    let st = state_of old w in
    ap (λ v. done value (with_variables v new.store.cells st)) k.vars
    ∙ ap (λ m. done value (with_variables set.vars m st)) (k.cells ∙ h.cells)
    ∙ ap (λ r. write_cell (element_name array index) value r st) (sym h.wrote)

module _ {W : Type 0} (old new : Machine W) (w : World) (here : Outer) (bs : List ℕ) (array index value : Text) where
  refused-by : (f : VarFault) (e : End) → here.told ≡ Some w → SameState old new → bs ≡ bytes_of array → is_qualified bs ≡ false →
      write_named old.values.vars (element_of (bytes_of array) (bytes_of index)) ≡ Err f →
      Raises (text_of (setting_message f) (element_name array index) []) (error_code NoCode (element_name array index)) new.values.store.stack e →
      Runs {T = Unit {0}} (assign_element array index value (state_of old w)) unseen (record { world = w; torn = here.torn; events = old.writes }) (Err e) new here
  refused-by f e told same b u r h =
      runs_as (ap (λ x. write_cell (element_name array index) value x (state_of old w)) (sym r) ∙ element-set bs array index value (state_of old w) b u) (raise_runs old told same h)

  -- the refusal of a write, or want of memory
  pub element_refused : (f : VarFault) (e : End) → here.told ≡ Some w → SameState old new → bs ≡ bytes_of array → is_qualified bs ≡ false →
      Refuses (write_named old.values.vars (element_of (bytes_of array) (bytes_of index))) f → RefusesSetting f (element_name array index) new.values.store.stack e →
      Runs {T = Unit {0}} (assign_element array index value (state_of old w)) unseen (record { world = w; torn = here.torn; events = old.writes }) (Err e) new here
  element_refused fault.NoVariable e told same b u r h = refused-by fault.NoVariable e told same b u r h
  element_refused fault.NoElement e told same b u r h = refused-by fault.NoElement e told same b u r h
  element_refused fault.IsArray e told same b u r h = refused-by fault.IsArray e told same b u r h
  element_refused fault.NotArray e told same b u r h = refused-by fault.NotArray e told same b u r h
  element_refused fault.LinkExists e told same b u r h = refused-by fault.LinkExists e told same b u r h
  element_refused fault.NoLevel e told same b u r h = refused-by fault.NoLevel e told same b u r h
  element_refused fault.NoMemory e told same b u r h = memory_runs (ap (λ x. Err x) h) told same.events

-- the error, as the code raises it
pub refuses_by : (f : VarFault) (name : Text) (stack : List Text) (e : End) → (f ≡ fault.NoMemory → ⊥) → Raises (text_of (setting_message f) name []) (error_code NoCode name) stack e → RefusesSetting f name stack e
refuses_by fault.NoVariable name stack e n h = h
refuses_by fault.NoElement name stack e n h = h
refuses_by fault.IsArray name stack e n h = h
refuses_by fault.NotArray name stack e n h = h
refuses_by fault.LinkExists name stack e n h = h
refuses_by fault.NoLevel name stack e n h = h
refuses_by fault.NoMemory name stack e n h = absurd (n refl)

-- ---- the stack

-- the value went into the cell, and the index was taken off
pub both_off : (stack set new : List Text) (index : ℕ) → length stack ≡ index + 2 → set ≡ take (length stack - 1) stack → new ≡ take (length set - 1) set → new ≡ take index stack
both_off stack set new index l a b =
    let short : length set ≡ index + 1 = omega (arith, l, ap length a, length-take (length stack - 1) stack) in
    b ∙ ap (λ s. take (length set - 1) s) a ∙ take-take (length set - 1) (length stack - 1) stack (omega (arith, short, l)) ∙ ap (λ k. take k stack) (omega (arith, short))

-- an index and a value above a stack
module _ (base one two : List Text) (i v : Text) (a : one ≡ base ++ i ∷ []) (b : two ≡ one ++ v ∷ []) where
  pub two_above : two ≡ base ++ i ∷ v ∷ []
  two_above = b ∙ ap (λ s. s ++ v ∷ []) a ∙ append_assoc base (i ∷ []) (v ∷ [])

  pub two_length : length two ≡ length base + 2
  two_length = ap length two_above ∙ length-append base (i ∷ v ∷ [])

  pub index_there : (k : ℕ) → k ≡ length base → get_or two k [] ≡ i
  index_there k e = ap (λ s. get_or s k []) b ∙ get_or_append_left one (v ∷ []) [] k (omega (arith, e, ap length a, length-append base (i ∷ []))) ∙ ap (λ s. get_or s k []) a ∙ get_or_push base i [] k (sym e)

  pub taken_back : (k : ℕ) → k ≡ length base → take k two ≡ base
  taken_back k e = ap (λ n. take n two) e ∙ ap (take (length base)) two_above ∙ take-append_seam base (i ∷ v ∷ [])

-- ---- texts that are made

pub stays_made : (old new : View) (i : ℕ) → KeepsMade old new → new.stack ≡ old.stack → i < length old.stack → IsMade old (Stack i) → IsMade new (Stack i)
stays_made old new i k e l m = subst IsTrue (sym (k (Stack i) l (omega (arith, l, ap length e)))) m
