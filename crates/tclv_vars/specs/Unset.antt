-- The cell of a variable that is set, to whatever, and what an unset leaves.
use Rattle.std.specs.Prelude.{ℕ, Option, None, Some, Result, Ok, Err}
use Rattle.std.specs.FinMap.{get}
use Rattle.tclv_names.specs.Keyed.{Text, Numbers}
use Rattle.tclv_vars.specs.declared.parts.Slot.{Slot}
use Rattle.tclv_vars.specs.declared.parts.Content.{Content}
use Rattle.tclv_vars.specs.declared.parts.Content.TheVariants.{Plain, Array}
use Rattle.tclv_vars.specs.declared.places.Place.{Place}
use Rattle.tclv_vars.specs.declared.faults.VarFault.{VarFault}
use Rattle.tclv_vars.specs.declared.faults.VarFault.TheVariants as fault
use Rattle.tclv_vars.specs.Scoping.{home, slot_of}
use Rattle.tclv_vars.specs.Table.{Table}
use Rattle.tclv_vars.specs.Clearing.{without, freed}

-- A cell's number, where it holds a value or an array. One that holds nothing isn't set.
abbrev pub held_at : VarFault → Option Content → ℕ → Result ℕ VarFault
held_at missing None c = Err missing
held_at missing (Some x) c = Ok c

-- An index of an array stands for a cell, or isn't there.
abbrev pub held_in : Numbers Content → Option ℕ → Result ℕ VarFault
held_in cs None = Err fault.NoElement
held_in cs (Some e) = held_at fault.NoElement (get cs e) e

-- An element is asked of a variable that has this content: it must be an array.
abbrev pub held_element : Numbers Content → Option Content → Text → Result ℕ VarFault
held_element cs None i = Err fault.NoVariable
held_element cs (Some Plain) i = Err fault.NotArray
held_element cs (Some (Array es)) i = held_in cs (get es i)

-- A variable is its name's cell, or the element of that cell.
abbrev pub held_slot : Numbers Content → Option Slot → Option Text → Result ℕ VarFault
held_slot cs None index = Err fault.NoVariable
held_slot cs (Some s) None = held_at fault.NoVariable (get cs s.cell) s.cell
held_slot cs (Some s) (Some i) = held_element cs (get cs s.cell) i

-- The cell of a variable, or of an element, that is set: to a value, or to an array.
abbrev pub variable : Table → Place → Text → Option Text → Result ℕ VarFault
variable t at name index = held_slot t.contents (slot_of t.scopes (home t.scopes at) name) index

-- Whether it is set, or why not.
abbrev pub is_held : Result ℕ VarFault → Result (Unit {0}) VarFault
is_held (Ok c) = Ok tt
is_held (Err e) = Err e

-- The cell holds nothing, and neither do the cells of its elements. Every name stays on its cell.
abbrev pub cleared : Table → ℕ → Table
cleared t c = record t { contents = without t.contents (freed t.contents c) }

abbrev pub unset_at : Table → Result ℕ VarFault → Table
unset_at t (Ok c) = cleared t c
unset_at t (Err e) = t

-- A variable, or an element, is unset: its cell is cleared. One that isn't set changes nothing.
abbrev pub unset : Table → Place → Text → Option Text → Table
unset t at name index = unset_at t (variable t at name index)

-- What stands at the numbers of cells is left where a variable is unset: nothing at those that are cleared.
abbrev pub left_at : {X : Type 0} → Numbers X → Numbers Content → Result ℕ VarFault → Numbers X
left_at m cs (Ok c) = without m (freed cs c)
left_at m cs (Err e) = m

abbrev pub left_unset : {X : Type 0} → Numbers X → Table → Place → Text → Option Text → Numbers X
left_unset m t at name index = left_at m t.contents (variable t at name index)
