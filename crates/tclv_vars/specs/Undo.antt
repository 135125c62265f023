-- Taking a write back.
use Rattle.std.specs.Prelude.{◌≡◌, ℕ, ◌-◌, true, if◌then◌else◌, Option, None, Some, Ok}
use Rattle.std.specs.FinMap.{get, insert, remove}
use Rattle.tclv_names.specs.Keyed.{Text}
use Rattle.tclv_vars.specs.declared.parts.Slot.{Slot}
use Rattle.tclv_vars.specs.declared.parts.Content.{Content}
use Rattle.tclv_vars.specs.declared.parts.Content.TheVariants.{Plain, Array}
use Rattle.tclv_vars.specs.declared.places.Place.{Place}
use Rattle.tclv_vars.specs.declared.places.Home.{Home}
use Rattle.tclv_vars.specs.declared.places.Missing.{Missing}
use Rattle.tclv_vars.specs.declared.places.Missing.TheVariants as lacks
use Rattle.tclv_vars.specs.Scoping.{home, slot_of, has_names, without_name, without_space}
use Rattle.tclv_vars.specs.Table.{Table, write, at_scopes}
use Rattle.tclv_vars.specs.Sound.{Sound}

-- What isn't there

abbrev pub missing_in : Option ℕ → Missing
missing_in None = lacks.Element
missing_in (Some e) = lacks.Value

abbrev pub missing_element : Option Content → Text → Missing
missing_element None i = lacks.Array
missing_element (Some Plain) i = lacks.Value
missing_element (Some (Array es)) i = missing_in (get es i)

abbrev pub missing_slot : Table → Home → Option Slot → Option Text → Missing
missing_slot t h None index = if has_names t.scopes h then lacks.Name else lacks.Names
missing_slot t h (Some s) None = lacks.Value
missing_slot t h (Some s) (Some i) = missing_element (get t.contents s.cell) i

-- What of a variable, or of an element, isn't there.
abbrev pub missing : Table → Place → Text → Option Text → Missing
missing t at name index = missing_slot t (home t.scopes at) (slot_of t.scopes (home t.scopes at) name) index

-- The tables now are those that a write made of the tables before, where it gave an unset variable its value, and this was missing.
pub record FreshWrite (before : Table) (at : Place) (name : Text) (index : Option Text) (lacked : Missing) (now : Table) : Type 0 where
  pub cell : ℕ
  pub wrote : write before at name index ≡ Ok (record { cell = cell; fresh = true; after = now })
  pub lacks : lacked ≡ missing before at name index
  pub sound : Sound before

-- How the tables before are made again

-- The cell holds nothing.
abbrev pub emptied : Table → ℕ → Table
emptied t c = record t { contents = remove t.contents c }

-- The cell that was given out last holds nothing, and its number is free.
abbrev pub last_dropped : Table → Table
last_dropped t = record t { contents = remove t.contents (t.next - 1); next = t.next - 1 }

abbrev pub emptied_in : Table → Option ℕ → Table
emptied_in t None = t
emptied_in t (Some e) = emptied t e

abbrev pub emptied_element : Table → Option Content → Text → Table
emptied_element t None i = t
emptied_element t (Some Plain) i = t
emptied_element t (Some (Array es)) i = emptied_in t (get es i)

abbrev pub emptied_slot : Table → Option Slot → Option Text → Table
emptied_slot t None index = t
emptied_slot t (Some s) None = emptied t s.cell
emptied_slot t (Some s) (Some i) = emptied_element t (get t.contents s.cell) i

-- The cell has no such index.
abbrev pub without_index : Table → ℕ → Option Content → Text → Table
without_index t c None i = t
without_index t c (Some Plain) i = t
without_index t c (Some (Array es)) i = record t { contents = insert t.contents c (Array (remove es i)) }

abbrev pub without_element : Table → Option Slot → Option Text → Table
without_element t None index = t
without_element t (Some s) None = t
without_element t (Some s) (Some i) = without_index t s.cell (get t.contents s.cell) i

abbrev pub without_array : Table → Option Slot → Table
without_array t None = t
without_array t (Some s) = emptied t s.cell

-- A name's cell goes, and with an index also that of the element.
abbrev pub cells_dropped : Table → Option Text → Table
cells_dropped t None = last_dropped t
cells_dropped t (Some i) = last_dropped (last_dropped t)

abbrev pub undone : Missing → Table → Home → Text → Option Text → Table
undone lacks.Value t h name index = emptied_slot t (slot_of t.scopes h name) index
undone lacks.Element t h name index = without_element (last_dropped t) (slot_of t.scopes h name) index
undone lacks.Array t h name index = without_array (last_dropped t) (slot_of t.scopes h name)
undone lacks.Name t h name index = cells_dropped (at_scopes t (without_name t.scopes h name)) index
undone lacks.Names t h name index = cells_dropped (at_scopes t (without_space t.scopes h)) index
