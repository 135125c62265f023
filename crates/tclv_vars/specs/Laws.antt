-- Words for the laws of variables: which cell a name stands for, and reading and writing where a name stands.
use Rattle.std.specs.Prelude.{◌≡◌, ◌≢◌, ℕ, ◌<◌, if◌then◌else◌, false, is_some, List, [], ◌∷◌, ◌++◌, length, Option, None, Some, Result, Ok, Err}
use Rattle.std.specs.List.{filter}
use Rattle.std.specs.FinMap.{get}
use Rattle.tclv_names.specs.Keyed.{Text, Numbers}
use Rattle.tclv_vars.specs.declared.parts.Slot.{Slot}
use Rattle.tclv_vars.specs.declared.parts.Content.{Content}
use Rattle.tclv_vars.specs.declared.places.Home.{Home}
use Rattle.tclv_vars.specs.declared.places.Home.TheVariants.{Local, Of}
use Rattle.tclv_vars.specs.declared.places.Place.{Place}
use Rattle.tclv_vars.specs.declared.places.Place.TheVariants as place
use Rattle.tclv_vars.specs.declared.places.Root.{Root}
use Rattle.tclv_vars.specs.declared.faults.VarFault.{VarFault}
use Rattle.tclv_vars.specs.Scoping.{Scoping, home, slot_of}
use Rattle.tclv_vars.specs.Table.{Table, Spot, read_slot, read, locate, set_spot, write, elements_of}
use Rattle.tclv_vars.specs.Clearing.{is_among, freed}
use Rattle.tclv_vars.specs.Links.{root_home, linked}
use Rattle.tclv_vars.specs.Unset.{variable, unset}

-- The frame is there. Every namespace is.
abbrev pub IsThere : Scoping → Home → Type 0
IsThere s (Local i) = i < length s.frames
IsThere s (Of n) = Unit {0}

-- The cell that a name, or an index of it, stands for, whatever the cell holds.
abbrev pub cell_slot : Numbers Content → Option Slot → Option Text → Option ℕ
cell_slot cs None index = None
cell_slot cs (Some s) None = Some s.cell
cell_slot cs (Some s) (Some i) = get (elements_of (get cs s.cell)) i

abbrev pub cell_of : Table → Home → Text → Option Text → Option ℕ
cell_of t h name index = cell_slot t.contents (slot_of t.scopes h name) index

-- Reading and writing a name that stands there.
abbrev pub read_there : Table → Home → Text → Option Text → Result ℕ VarFault
read_there t h name index = read_slot t.contents (slot_of t.scopes h name) index

abbrev pub write_there : Table → Home → Text → Option Text → Result Spot VarFault
write_there t h name index = set_spot t (locate t h name index)

-- What was written is read.
abbrev pub ReadsBack : Table → Place → Text → Option Text → Type 0
ReadsBack t at name index = (s : Spot) → write t at name index ≡ Ok s → read s.after at name index ≡ Ok s.cell

-- A name stays on its cell, whatever the cell holds, and each index that it has stays on its own.
abbrev pub StaysOnCells : Table → Table → Home → Text → Type 0
StaysOnCells t u h name = (index : Option Text) (c : ℕ) → cell_of t h name index ≡ Some c → cell_of u h name index ≡ Some c

-- A name, or an index of it, reads the same in both tables: the same cell, or the same refusal, where it isn't set or is an array.
abbrev pub ReadsAlike : Table → Table → Home → Text → Option Text → Type 0
ReadsAlike t u h name index = read_there u h name index ≡ read_there t h name index

-- Neither the cell of the name nor that of its element is among these.
pub record StandsForNone (cs : List ℕ) (t : Table) (h : Home) (name : Text) (index : Option Text) : Type 0 where
  pub variable : (c : ℕ) → cell_of t h name None ≡ Some c → is_among cs c ≡ false
  pub element : (c : ℕ) → cell_of t h name index ≡ Some c → is_among cs c ≡ false

-- The cell, where it holds nothing.
abbrev pub vacant : Numbers Content → Option ℕ → List ℕ
vacant cs None = []
vacant cs (Some c) = if is_some (get cs c) then [] else c ∷ []

-- The cells that a write sets: that of the name and that of its element, where they held nothing before. The tables u are those that it left.
abbrev pub set_by : Table → Home → Text → Option Text → Table → List ℕ
set_by t h name index u = vacant t.contents (cell_of u h name None) ++ vacant t.contents (cell_of u h name index)

-- A write leaves what else a name reads as, set or not: each name whose cells it doesn't set.
abbrev pub WriteLeavesOthers : Table → Place → Text → Option Text → Type 0
WriteLeavesOthers t at name index = (s : Spot) → write t at name index ≡ Ok s → (h : Home) (other : Text) (i : Option Text)
    → StandsForNone (set_by t (home t.scopes at) name index s.after) s.after h other i → ReadsAlike t s.after h other i

-- The tables u are those that a link left, whose other name stands at h.
pub record IsLinked (t : Table) (local : Text) (r : Root) (name : Text) (index : Option Text) (h : Home) (u : Table) : Type 0 where
  pub linked : linked t local r name index ≡ Ok u
  pub root : root_home t.scopes r ≡ Ok h

-- The local name isn't that whose element is linked. (After `upvar 0 x(i) x` the name x stands for the element's cell, and for the array's no more, so x(i) is no name of that cell.)
abbrev pub IsNoElementOfIt : Table → Text → Home → Text → Option Text → Type 0
IsNoElementOfIt t local h name index = (i : Text) → index ≡ Some i → home t.scopes place.Frame ≡ h → local ≢ name

-- What is written through a link is read through the other name, and the other way round.
pub record IsSecondName (local : Text) (name : Text) (index : Option Text) (h : Home) (u : Table) : Type 0 where
  pub forth : (s : Spot) → write u place.Frame local None ≡ Ok s → read_there s.after h name index ≡ Ok s.cell
  pub back : (s : Spot) → write_there u h name index ≡ Ok s → read s.after place.Frame local None ≡ Ok s.cell

-- The array that a link to an element makes, where the cell of the other name held nothing.
abbrev pub array_made : Table → Home → Text → Option Text → Result Spot VarFault → List ℕ
array_made t h name None r = []
array_made t h name (Some i) (Err e) = []
array_made t h name (Some i) (Ok s) = vacant t.contents (cell_of s.after h name None)

-- A link leaves what a name reads as, set or not: each name but the local one, whose cell isn't the array that the link makes.
abbrev pub LinkLeavesOthers : Table → Text → Home → Text → Option Text → Table → Type 0
LinkLeavesOthers t local k name index u = (h : Home) (other : Text) (i : Option Text) → (home t.scopes place.Frame ≡ h → local ≢ other)
    → StandsForNone (array_made t k name index (locate t k name index)) u h other i → ReadsAlike t u h other i

-- The cells that an unset clears: none where the variable isn't set, and else its cell and those of its elements, where they held something.
abbrev pub cleared_by : Numbers Content → Result ℕ VarFault → List ℕ
cleared_by cs (Ok c) = filter (λ k. is_some (get cs k)) (freed cs c)
cleared_by cs (Err e) = []

-- An unset leaves what else a name reads as, set or not: each name whose cells it doesn't clear.
abbrev pub UnsetLeavesOthers : Table → Place → Text → Option Text → Type 0
UnsetLeavesOthers t at name index = (h : Home) (other : Text) (i : Option Text)
    → StandsForNone (cleared_by t.contents (variable t at name index)) t h other i → ReadsAlike t (unset t at name index) h other i

-- What is unset isn't set, and isn't read.
pub record IsGone (t : Table) (at : Place) (name : Text) (index : Option Text) : Type 0 where
  pub gone : (c : ℕ) → variable (unset t at name index) at name index ≢ Ok c
  pub unread : (c : ℕ) → read (unset t at name index) at name index ≢ Ok c
