-- Links: a second name of a variable's cell.
use Rattle.std.specs.Prelude.{◌≡◌, ℕ, ◌-◌, ◌&&◌, nat_lt, Bool, false, if◌then◌else◌, Option, None, Some, is_some, Result, Ok, Err}
use Rattle.std.specs.FinMap.{get}
use Rattle.tclv_names.specs.Keyed.{Text, Numbers}
use Rattle.tclv_vars.specs.declared.parts.Slot.{Slot}
use Rattle.tclv_vars.specs.declared.parts.Content.{Content}
use Rattle.tclv_vars.specs.declared.places.Home.{Home}
use Rattle.tclv_vars.specs.declared.places.Home.TheVariants.{Of}
use Rattle.tclv_vars.specs.declared.places.Place.TheVariants as place
use Rattle.tclv_vars.specs.declared.places.Root.{Root}
use Rattle.tclv_vars.specs.declared.places.Root.TheVariants as root
use Rattle.tclv_vars.specs.declared.faults.VarFault.{VarFault}
use Rattle.tclv_vars.specs.declared.faults.VarFault.TheVariants as fault
use Rattle.tclv_vars.specs.Scoping.{Scoping, home, home_of, slot_of, with_name, level_of, above}
use Rattle.tclv_vars.specs.Table.{Table, Spot, locate, at_scopes, Refuses}

-- Where the other name of a link stands: in the frame of a level, of the current one and those that called it, or in a namespace. Above the current level there is none.
abbrev pub root_home : Scoping → Root → Result Home VarFault
root_home s (root.Level l) = if nat_lt (level_of s s.current) l then Err fault.NoLevel else Ok (home_of s (above s (level_of s s.current - l) s.current))
root_home s (root.Space n) = Ok (Of n)

-- A name is a variable that is no link where its cell is its own, and holds something.
abbrev pub is_variable : Numbers Content → Option Slot → Bool
is_variable cs None = false
is_variable cs (Some s) = s.own && is_some (get cs s.cell)

-- The cell of the other name, set or not. It is made where there is none.
abbrev pub link_cell : Table → Text → Text → Option Text → Result Home VarFault → Result Spot VarFault
link_cell t local name index (Err e) = Err e
link_cell t local name index (Ok h) = if is_variable t.contents (slot_of t.scopes (home t.scopes place.Frame) local) then Err fault.LinkExists else locate t h name index

-- The name there is a second name of the cell, whatever it stood for.
abbrev pub second_name : Table → Home → Text → ℕ → Table
second_name t h local c = at_scopes t (with_name t.scopes h local (record { cell = c; own = false }))

abbrev pub link_to : Home → Text → Result Spot VarFault → Result Table VarFault
link_to h local (Err e) = Err e
link_to h local (Ok s) = Ok (second_name s.after h local s.cell)

-- The local name is a link to the other one, which stands where the root says. The level is looked at first, then the local name, then the other.
abbrev pub linked : Table → Text → Root → Text → Option Text → Result Table VarFault
linked t local r name index = link_to (home t.scopes place.Frame) local (link_cell t local name index (root_home t.scopes r))

-- A call leaves the tables of m. After a refusal they are as before.
abbrev pub Leaves : Result Table VarFault → Table → Result (Unit {0}) VarFault → Table → Type 0
Leaves m old (Ok u) new = m ≡ Ok new
Leaves m old (Err e) new = Refuses m e × (new ≡ old)
