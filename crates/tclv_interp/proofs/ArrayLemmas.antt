-- No variable is an array where only whole variables were set.
use Rattle.std.proofs.Common.{◌≡◌, ℕ, Bool, true, false, not, cond, sym, ap, ◌∙◌, refl, subst, Some, Ok, Err}
use Rattle.std.specs.Prelude.{◌||◌, is_some}
use Rattle.std.proofs.lemmas.Bool.{false≢true}
use Rattle.tclv_reply.specs.Names.{Naming, naming, named_by, whole_of, open_of, is_element, is_qualified, is_plain}
use Rattle.tclv_engine.specs.Names.{write_named}
use Rattle.tclv_engine.specs.Variables.{is_unbuilt}
use Rattle.std.specs.Prelude.{List, Option, None, Result, OnOk, OnErr}
use Rattle.std.specs.FinMap.{get, insert, get-empty, get-insert}
use Rattle.std.specs.Ordering.{nat_cmp, eq_by_cmp}
use Rattle.std.proofs.lemmas.Cmp.{nat_cmp_total}
use Rattle.tclv_vars.specs.declared.parts.Slot.{Slot}
use Rattle.tclv_vars.specs.declared.parts.Content.{Content}
use Rattle.tclv_vars.specs.declared.parts.Content.TheVariants.{Plain, Array}
use Rattle.tclv_vars.specs.declared.places.Place.TheVariants as place
use Rattle.tclv_vars.specs.declared.places.Home.{Home}
use Rattle.tclv_vars.specs.declared.faults.VarFault.{VarFault}
use Rattle.tclv_vars.specs.declared.faults.VarFault.TheVariants as fault
use Rattle.tclv_vars.specs.Scoping.{home, slot_of}
use Rattle.tclv_vars.specs.Table.{Table, Spot, no_variables, HoldsArray, Refuses, locate_slot, set_cell, set_spot, write}
use Rattle.tclv_engine.specs.Holdings.{Holdings, SameVariables, Sets}
use Rattle.tclv_interp.specs.Interpreters.{HasNoArrays}

pub none_at_start : (t : Table) → t ≡ no_variables → HasNoArrays t
none_at_start t e = subst HasNoArrays (sym e) (λ cell h. subst HoldsArray (get-empty nat_cmp cell) h)

in_content : (b : Bool) (x : Option Content) → (HoldsArray x → ⊥) → HoldsArray (cond b (Some Plain) x) → ⊥
in_content true x free h = h
in_content false x free h = free h

in_plain : (t : Table) (c q : ℕ) → HasNoArrays t → HoldsArray (get (insert t.contents c Plain) q) → ⊥
in_plain t c q free h = in_content (eq_by_cmp nat_cmp q c) (get t.contents q) (free q) (subst HoldsArray (get-insert nat_cmp_total t.contents c Plain q) h)

abbrev HaveNone : Result Spot VarFault → Type 0
HaveNone (Ok s) = HasNoArrays s.after
HaveNone (Err e) = Unit {0}

in_cell : (t : Table) (c : ℕ) (x : Option Content) → HasNoArrays t → HaveNone (set_cell t c x)
in_cell t c None free = λ q. in_plain t c q free
in_cell t c (Some Plain) free = free
in_cell t c (Some (Array es)) free = tt

in_slot : (t : Table) (h : Home) (name : List ℕ) (slot : Option Slot) → HasNoArrays t → HaveNone (set_spot t (locate_slot t h name slot None))
in_slot t h name None free = λ q. in_plain t t.next q free
in_slot t h name (Some s) free = in_cell t s.cell (get t.contents s.cell) free

in_written : (t : Table) (name : List ℕ) → HasNoArrays t → HaveNone (write t place.Frame name None)
in_written t name free = in_slot t (home t.scopes place.Frame) name (slot_of t.scopes (home t.scopes place.Frame) name) free

-- ---- a plain name

plain_by : (o : Option ℕ) (q : Bool) (name : List ℕ) → not (is_some o || q) ≡ true → named_by o name ≡ whole_of name
plain_by None q name h = refl
plain_by (Some place) q name h = absurd (false≢true h)

unqualified_by : (e q : Bool) → not (e || q) ≡ true → q ≡ false
unqualified_by true q h = absurd (false≢true h)
unqualified_by false true h = absurd (false≢true h)
unqualified_by false false h = refl

pub plain_naming : (name : List ℕ) → is_plain name ≡ true → naming name ≡ whole_of name
plain_naming name h = plain_by (open_of name) (is_qualified name) name h

pub plain_is_built : (name : List ℕ) → is_plain name ≡ true → is_unbuilt name ≡ false
plain_is_built name h = ap (λ n. n.qualified) (plain_naming name h) ∙ unqualified_by (is_element name) (is_qualified name) h

-- a call that sets a variable, or refuses
pub none_kept : {T E : Type 0} (r : Result T E) (old new : Holdings) (name value : List ℕ) → is_plain name ≡ true → HasNoArrays old.vars → OnOk r (Sets old new (naming name) value) → OnErr r (SameVariables old new) → HasNoArrays new.vars
none_kept (Ok x) old new name value plain free set same =
    let P : Naming → Type 0 = λ n. HaveNone (write_named old.vars n) in
    subst HasNoArrays (sym set.vars) (subst HaveNone set.wrote (subst P (sym (plain_naming name plain)) (in_written old.vars name free)))
none_kept (Err e) old new name value plain free set same = subst HasNoArrays (sym same.vars) free

-- ---- a write that isn't refused

abbrev IsWritten : Result Spot VarFault → Type 0
IsWritten (Ok s) = Unit {0}
IsWritten (Err e) = ⊥

cell-written : (t : Table) (c : ℕ) (x : Option Content) → (HoldsArray x → ⊥) → IsWritten (set_cell t c x)
cell-written t c None free = tt
cell-written t c (Some Plain) free = tt
cell-written t c (Some (Array es)) free = free tt

slot-written : (t : Table) (h : Home) (name : List ℕ) (slot : Option Slot) → HasNoArrays t → IsWritten (set_spot t (locate_slot t h name slot None))
slot-written t h name None free = tt
slot-written t h name (Some s) free = cell-written t s.cell (get t.contents s.cell) (free s.cell)

named-written : (t : Table) (name : List ℕ) → is_plain name ≡ true → HasNoArrays t → IsWritten (write_named t (naming name))
named-written t name plain free =
    let P : Naming → Type 0 = λ n. IsWritten (write_named t n) in
    subst P (sym (plain_naming name plain)) (slot-written t (home t.scopes place.Frame) name (slot_of t.scopes (home t.scopes place.Frame) name) free)

-- a plain name over a table without arrays is only ever refused for want of memory
pub never_refused : (t : Table) (name : List ℕ) (e : VarFault) → is_plain name ≡ true → HasNoArrays t → Refuses (write_named t (naming name)) e → e ≡ fault.NoMemory
never_refused t name fault.NoMemory plain free h = refl
never_refused t name fault.NoVariable plain free h = absurd (subst IsWritten h (named-written t name plain free))
never_refused t name fault.NoElement plain free h = absurd (subst IsWritten h (named-written t name plain free))
never_refused t name fault.IsArray plain free h = absurd (subst IsWritten h (named-written t name plain free))
never_refused t name fault.NotArray plain free h = absurd (subst IsWritten h (named-written t name plain free))
never_refused t name fault.LinkExists plain free h = absurd (subst IsWritten h (named-written t name plain free))
never_refused t name fault.NoLevel plain free h = absurd (subst IsWritten h (named-written t name plain free))
