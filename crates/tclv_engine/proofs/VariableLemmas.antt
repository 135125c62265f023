-- The value of a variable, by its name and by the cell that is found.
use Rattle.std.proofs.Common.{◌≡◌, ℕ, List, [], ◌++◌, ap, ◌∙◌, sym, true, false, Bool, Result, Ok}
use Rattle.std.specs.Prelude.{codes}
use Rattle.std.specs.Str.{chars}
use Rattle.std.proofs.lemmas.Bool.{cond-true, cond-false}
use Rattle.tclv_vars.specs.declared.faults.VarFault.{VarFault}
use Rattle.tclv_vars.specs.Table.{Table, Spot}
use Rattle.tclv_engine.specs.State.{Text, State, with_variables}
use Rattle.std.specs.Ordering.{nat_cmp}
use Rattle.std.specs.FinMap.{FinMap, get, insert}
use Rattle.std.specs.Option.{unwrap_or}
use Rattle.tclv_engine.specs.Results.{done}
use Rattle.tclv_engine.proofs.HoldingsLemmas.{get-put}
use Rattle.tclv_reply.specs.Names.{is_qualified, naming, element_of}
use Rattle.tclv_engine.specs.Names.{bytes_of, read_named, write_named}
use Rattle.tclv_engine.specs.Variables.{is_unbuilt, not_built, variable, read_cell, assign, write_cell, element_name, element_value}

-- ---- by the bytes of its name

pub variable-unbuilt : {W : Type 0} → (bs : List ℕ) (name : Text) (st : (State W)) → bs ≡ bytes_of name → is_unbuilt bs ≡ true → not_built st ≡ variable name st
variable-unbuilt bs name st e h =
    let t : is_unbuilt (bytes_of name) ≡ true = sym (ap is_unbuilt e) ∙ h in sym (cond-true _ _ _ t)

pub variable-read : {W : Type 0} → (bs : List ℕ) (name : Text) (st : (State W)) (r : Result ℕ VarFault) → bs ≡ bytes_of name → is_unbuilt bs ≡ false →
    read_named st.tables.vars (naming bs) ≡ r → read_cell name r st ≡ variable name st
variable-read bs name st r e h k =
    let t : is_unbuilt (bytes_of name) ≡ false = sym (ap is_unbuilt e) ∙ h in
    ap (λ x. read_cell name x st) (sym k ∙ ap (λ b. read_named st.tables.vars (naming b)) e) ∙ sym (cond-false _ _ _ t)

pub assign-unbuilt : {W : Type 0} → (bs : List ℕ) (name value : Text) (st : (State W)) → bs ≡ bytes_of name → is_unbuilt bs ≡ true → not_built st ≡ assign name value st
assign-unbuilt bs name value st e h =
    let t : is_unbuilt (bytes_of name) ≡ true = sym (ap is_unbuilt e) ∙ h in sym (cond-true _ _ _ t)

pub assign-write : {W : Type 0} → (bs : List ℕ) (name value : Text) (st : (State W)) (r : Result Spot VarFault) → bs ≡ bytes_of name → is_unbuilt bs ≡ false →
    write_named st.tables.vars (naming bs) ≡ r → write_cell name value r st ≡ assign name value st
assign-write bs name value st r e h k =
    let t : is_unbuilt (bytes_of name) ≡ false = sym (ap is_unbuilt e) ∙ h in
    ap (λ x. write_cell name value x st) (sym k ∙ ap (λ b. write_named st.tables.vars (naming b)) e) ∙ sym (cond-false _ _ _ t)

-- ---- an element, by the bytes of its array's name

pub element-unbuilt : {W : Type 0} → (bs : List ℕ) (array index : Text) (st : (State W)) → bs ≡ bytes_of array → is_qualified bs ≡ true → not_built st ≡ element_value array index st
element-unbuilt bs array index st e h =
    let t : is_qualified (bytes_of array) ≡ true = sym (ap is_qualified e) ∙ h in sym (cond-true _ _ _ t)

pub element-read : {W : Type 0} → (bs : List ℕ) (array index : Text) (st : (State W)) (r : Result ℕ VarFault) → bs ≡ bytes_of array → is_qualified bs ≡ false →
    read_named st.tables.vars (element_of bs (bytes_of index)) ≡ r → read_cell (element_name array index) r st ≡ element_value array index st
element-read bs array index st r e h k =
    let t : is_qualified (bytes_of array) ≡ false = sym (ap is_qualified e) ∙ h in
    ap (λ x. read_cell (element_name array index) x st) (sym k ∙ ap (λ b. read_named st.tables.vars (element_of b (bytes_of index))) e) ∙ sym (cond-false _ _ _ t)

-- what was written is what is read
pub written-cell : {W : Type 0} → (name value : Text) (st : (State W)) (vars : Table) (cells : FinMap nat_cmp Text) (cell : ℕ) (fresh : Bool) → cells ≡ insert st.tables.texts cell value →
    done (unwrap_or (get cells cell) []) (with_variables vars cells st) ≡ write_cell name value (Ok (record { cell = cell; fresh = fresh; after = vars })) st
written-cell name value st vars cells cell fresh e =
    ap (λ v. done v (with_variables vars cells st)) (ap (λ m. unwrap_or (get m cell) []) e ∙ ap (λ o. unwrap_or o []) (get-put st.tables.texts cell value))
    ∙ ap (λ m. done value (with_variables vars m st)) e

-- the name of an element, as it is put together
pub named_element : (t0 t1 t2 t3 t4 array index : Text) → t0 ≡ [] → t1 ≡ t0 ++ array → t2 ≡ t1 ++ chars (codes "(") → t3 ≡ t2 ++ index → t4 ≡ t3 ++ chars (codes ")") → t4 ≡ element_name array index
unfolding chars
named_element t0 t1 t2 t3 t4 array index e a b c d =
    d ∙ ap (λ t. t ++ codes ")") (c ∙ ap (λ t. t ++ index) (b ∙ ap (λ t. t ++ codes "(") (a ∙ ap (λ t. t ++ array) e)))
