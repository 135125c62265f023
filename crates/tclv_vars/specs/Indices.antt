-- The indices of an array.
use Rattle.std.specs.Prelude.{◌≡◌, ℕ, Bool, false, List, length, map, Option, None, Some, is_some, Result, Ok, Err}
use Rattle.std.specs.List.{filter}
use Rattle.std.specs.Option.{option_map_or}
use Rattle.std.specs.Str.{chars}
use Rattle.std.specs.FinMap.{get, keys}
use Rattle.tclv_names.specs.Keyed.{Text, Named, Numbers}
use Rattle.tclv_vars.specs.declared.parts.Slot.{Slot}
use Rattle.tclv_vars.specs.declared.parts.Content.{Content}
use Rattle.tclv_vars.specs.declared.parts.Content.TheVariants.{Plain, Array}
use Rattle.tclv_vars.specs.declared.places.Place.{Place}
use Rattle.tclv_vars.specs.declared.faults.VarFault.{VarFault}
use Rattle.tclv_vars.specs.declared.faults.VarFault.TheVariants as fault
use Rattle.tclv_vars.specs.Scoping.{home, slot_of}
use Rattle.tclv_vars.specs.Table.{Table, Refuses}

-- An index is that of an element that is set where it stands for a cell that holds something.
abbrev pub is_set : Numbers Content → Named ℕ → Text → Bool
is_set cs es i = option_map_or (λ e. is_some (get cs e)) (get es i) false

-- The indices of the elements that are set, in the order of their bytes as UTF-8, which is that of their code points.
abbrev pub names_of : Numbers Content → Named ℕ → List (List ℕ)
names_of cs es = map chars (filter (is_set cs es) (keys es))

-- The indices of a variable with this content: it must be an array.
abbrev pub names_at : Numbers Content → Option Content → Result (List (List ℕ)) VarFault
names_at cs None = Err fault.NoVariable
names_at cs (Some Plain) = Err fault.NotArray
names_at cs (Some (Array es)) = Ok (names_of cs es)

abbrev pub names_slot : Numbers Content → Option Slot → Result (List (List ℕ)) VarFault
names_slot cs None = Err fault.NoVariable
names_slot cs (Some s) = names_at cs (get cs s.cell)

-- The indices of an array, each as a text.
abbrev pub array_names : Table → Place → Text → Result (List (List ℕ)) VarFault
array_names t at name = names_slot t.contents (slot_of t.scopes (home t.scopes at) name)

-- How many there are.
abbrev pub count_of : Result (List (List ℕ)) VarFault → Result ℕ VarFault
count_of (Ok names) = Ok (length names)
count_of (Err e) = Err e

-- A call answers as m says.
abbrev pub Lists : Result (List (List ℕ)) VarFault → Result (List (List ℕ)) VarFault → Type 0
Lists m (Ok names) = m ≡ Ok names
Lists m (Err e) = Refuses m e
