-- Variables: what the cells hold, which cell a name and an index stand for, and what a write makes of the tables.
use Rattle.std.specs.Prelude.{◌≡◌, ℕ, ◌+◌, Bool, true, false, if◌then◌else◌, Option, None, Some, Result, Ok, Err}
use Rattle.std.specs.Prelude.{refl}
use Rattle.std.specs.Coded.{Coded, code_by, coded×, coded_ℕ, coded_option}
use Rattle.std.specs.FinMap.{get, insert, empty}
use Rattle.tclv_names.specs.Keyed.{Text, Named, Numbers, named_code, numbers_code}
use Rattle.tclv_vars.specs.declared.parts.Slot.{Slot}
use Rattle.tclv_vars.specs.declared.parts.Content.{Content}
use Rattle.tclv_vars.specs.declared.parts.Content.TheVariants.{Plain, Array}
use Rattle.tclv_vars.specs.declared.places.Place.{Place}
use Rattle.tclv_vars.specs.declared.places.Home.{Home}
use Rattle.tclv_vars.specs.declared.faults.VarFault.{VarFault}
use Rattle.tclv_vars.specs.declared.faults.VarFault.TheVariants as fault
use Rattle.tclv_vars.specs.declared.tables.Tables.{Tables}
use Rattle.tclv_vars.specs.Scoping.{Scoping, home, slot_of, with_name, pushed, scoping_code, at_start}

-- The frames and namespaces with their names, what each cell that is set holds, and the number that the next new cell gets.
-- A cell that isn't in `contents` holds nothing.
pub record Table : Type 0 where
  pub scopes : Scoping
  pub contents : Numbers Content
  pub next : ℕ

-- At the start no variable is there.
abbrev pub no_variables : Table
no_variables = record { scopes = at_start; contents = empty; next = 0 }

-- Reading

-- A cell's number, where its content is a value. One that holds nothing isn't set, and a whole array is no value.
abbrev pub plain_at : VarFault → Option Content → ℕ → Result ℕ VarFault
plain_at missing None c = Err missing
plain_at missing (Some Plain) c = Ok c
plain_at missing (Some (Array es)) c = Err fault.IsArray

-- An index of an array stands for a cell, or isn't there.
abbrev pub read_in : Numbers Content → Option ℕ → Result ℕ VarFault
read_in cs None = Err fault.NoElement
read_in cs (Some e) = plain_at fault.NoElement (get cs e) e

-- An element is asked of a variable that has this content: it must be an array.
abbrev pub read_element : Numbers Content → Option Content → Text → Result ℕ VarFault
read_element cs None i = Err fault.NoVariable
read_element cs (Some Plain) i = Err fault.NotArray
read_element cs (Some (Array es)) i = read_in cs (get es i)

-- A variable is its name's cell, or the element of that cell.
abbrev pub read_slot : Numbers Content → Option Slot → Option Text → Result ℕ VarFault
read_slot cs None index = Err fault.NoVariable
read_slot cs (Some s) None = plain_at fault.NoVariable (get cs s.cell) s.cell
read_slot cs (Some s) (Some i) = read_element cs (get cs s.cell) i

-- The cell of a variable, or of an element, that is set to a value.
abbrev pub read : Table → Place → Text → Option Text → Result ℕ VarFault
read t at name index = read_slot t.contents (slot_of t.scopes (home t.scopes at) name) index

-- Writing

-- A cell, whether it is new to what it stands for, and the tables with it.
pub record Spot : Type 0 where
  pub cell : ℕ
  pub fresh : Bool
  pub after : Table

-- A cell that is there changes nothing.
abbrev pub there : Table → ℕ → Result Spot VarFault
there t c = Ok (record { cell = c; fresh = false; after = t })

-- A new name owns the next cell.
abbrev pub named : Table → Home → Text → Scoping
named t h name = with_name t.scopes h name (record { cell = t.next; own = true })

abbrev pub new_name : Table → Home → Text → Spot
new_name t h name = record { cell = t.next; fresh = true; after = record t { scopes = named t h name; next = t.next + 1 } }

-- A new name with an index is an array of that element alone. The array's cell is made before the element's.
abbrev pub new_array : Table → Home → Text → Text → Spot
new_array t h name i = record {
  cell = t.next + 1;
  fresh = true;
  after = record { scopes = named t h name; contents = insert t.contents t.next (Array (insert empty i (t.next + 1))); next = t.next + 2 };
}

-- Cell c is an array with the elements es and a new one, which has the next cell.
abbrev pub new_element : Table → ℕ → Named ℕ → Text → Spot
new_element t c es i = record { cell = t.next; fresh = true; after = record t { contents = insert t.contents c (Array (insert es i t.next)); next = t.next + 1 } }

-- An index of the array in cell c: its cell, or a new element.
abbrev pub locate_in : Table → ℕ → Named ℕ → Text → Option ℕ → Result Spot VarFault
locate_in t c es i None = Ok (new_element t c es i)
locate_in t c es i (Some e) = there t e

-- An element of the variable in cell c, which has this content. A variable that isn't set becomes an array.
abbrev pub locate_element : Table → ℕ → Option Content → Text → Result Spot VarFault
locate_element t c None i = Ok (new_element t c empty i)
locate_element t c (Some Plain) i = Err fault.NotArray
locate_element t c (Some (Array es)) i = locate_in t c es i (get es i)

-- A name stands for its cell, and a name that isn't there is made.
abbrev pub locate_slot : Table → Home → Text → Option Slot → Option Text → Result Spot VarFault
locate_slot t h name None None = Ok (new_name t h name)
locate_slot t h name None (Some i) = Ok (new_array t h name i)
locate_slot t h name (Some s) None = there t s.cell
locate_slot t h name (Some s) (Some i) = locate_element t s.cell (get t.contents s.cell) i

-- The cell of a variable or of an element, set or not. It is made where there is none, and is fresh then.
abbrev pub locate : Table → Home → Text → Option Text → Result Spot VarFault
locate t h name index = locate_slot t h name (slot_of t.scopes h name) index

-- The cell counts as set, to a value.
abbrev pub plain : Table → ℕ → Table
plain t c = record t { contents = insert t.contents c Plain }

-- A cell with this content is set. It is fresh where it held nothing, and a whole array is not overwritten.
abbrev pub set_cell : Table → ℕ → Option Content → Result Spot VarFault
set_cell t c None = Ok (record { cell = c; fresh = true; after = plain t c })
set_cell t c (Some Plain) = there t c
set_cell t c (Some (Array es)) = Err fault.IsArray

-- The cell that was found is set. One that was made for this held nothing.
abbrev pub set_spot : Table → Result Spot VarFault → Result Spot VarFault
set_spot t (Err e) = Err e
set_spot t (Ok s) = if s.fresh then Ok (record s { after = plain s.after s.cell }) else set_cell t s.cell (get t.contents s.cell)

-- The cell of a variable or of an element, which counts as set from then on. It is fresh where it wasn't set before.
abbrev pub write : Table → Place → Text → Option Text → Result Spot VarFault
write t at name index = set_spot t (locate t (home t.scopes at) name index)

-- The frames and names change, and no cell does.
abbrev pub at_scopes : Table → Scoping → Table
at_scopes t s = record t { scopes = s }

-- A frame is pushed.
abbrev pub begun : Table → ℕ → Bool → Table
begun t space local = at_scopes t (pushed t.scopes space local)

-- What is set

-- The cell holds a value, and no array.
abbrev pub holds_value : Option Content → Bool
holds_value None = false
holds_value (Some Plain) = true
holds_value (Some (Array es)) = false

abbrev pub has_value : Table → ℕ → Bool
has_value t c = holds_value (get t.contents c)

-- Answers

-- A refusal comes where m is that refusal. Want of memory may come in any case.
abbrev pub Refuses : {X : Type 0} → Result X VarFault → VarFault → Type 0
Refuses m fault.NoMemory = Unit {0}
Refuses m e = m ≡ Err e

-- A call answers as m says, and leaves the tables of m. After a refusal they are as before.
abbrev pub Gives : Result Spot VarFault → Table → Result (ℕ × Bool) VarFault → Table → Type 0
Gives m old (Ok p) new = m ≡ Ok (record { cell = p.0; fresh = p.1; after = new })
Gives m old (Err e) new = Refuses m e × (new ≡ old)

-- what the fields of the tables are seen as
abbrev pub table_of : Tables → Table
table_of t = record { scopes = t.scopes; contents = t.cells.map; next = t.next }

abbrev pub HoldsArray : Option Content → Type 0
HoldsArray None = ⊥
HoldsArray (Some Plain) = ⊥
HoldsArray (Some (Array es)) = Unit {0}

-- the elements of an array, and none of anything else
abbrev pub elements_of : Option Content → Named ℕ
elements_of None = empty
elements_of (Some Plain) = empty
elements_of (Some (Array es)) = es

-- how a table is stored, for the model
abbrev pub content_elements : Content → Option (Named ℕ)
content_elements Plain = None
content_elements (Array es) = Some es

abbrev pub content_of : Option (Named ℕ) → Content
content_of None = Plain
content_of (Some es) = Array es

abbrev pub content_back : (c : Content) → content_of (content_elements c) ≡ c
content_back Plain = refl
content_back (Array es) = refl

abbrev pub content_code : Coded Content
content_code = code_by (Option (Named ℕ)) (coded_option (named_code coded_ℕ)) content_elements content_of content_back

abbrev pub table_code : Coded Table
table_code = code_by (Scoping × (Numbers Content × ℕ)) (coded× scoping_code (coded× (numbers_code content_code) coded_ℕ)) (λ t. (t.scopes, (t.contents, t.next))) (λ p. record { scopes = p.0; contents = p.1.0; next = p.1.1 }) (λ _. refl)
