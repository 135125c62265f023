-- A write changes no frame but for its names.
use Rattle.std.proofs.Common.{◌≡◌, ℕ, ◌+◌, ◌<◌, Bool, true, false, length, Option, None, Some, refl, sym, subst, arith}
use Rattle.std.specs.Prelude.{Result, Ok, Err, MatchResult, OnOk, if◌then◌else◌}
use Rattle.std.specs.FinMap.{get, insert}
use Rattle.tclv_names.specs.Keyed.{Text, Named}
use Rattle.tclv_vars.specs.declared.parts.Slot.{Slot}
use Rattle.tclv_vars.specs.declared.parts.Content.{Content}
use Rattle.tclv_vars.specs.declared.parts.Content.TheVariants.{Plain, Array}
use Rattle.tclv_vars.specs.declared.places.Place.{Place}
use Rattle.tclv_vars.specs.declared.places.Home.{Home}
use Rattle.tclv_vars.specs.declared.faults.VarFault.{VarFault}
use Rattle.tclv_vars.specs.Scoping.{home, names_in, slot_of, with_name}
use Rattle.tclv_vars.specs.Table.{Table, Spot, locate_in, locate_element, locate_slot, locate, set_cell, set_spot, write, plain, begun, Gives}
use Rattle.tclv_vars.specs.Sound.{Sound}
use Rattle.tclv_vars.proofs.ScopeLemmas.{length-with_names, current-with_names, length-pushed}

abbrev pub Same : Table → Table → Type 0
Same t u = (u.scopes.current ≡ t.scopes.current) × (length u.scopes.frames ≡ length t.scopes.frames)

abbrev pub Frames : Table → Result Spot VarFault → Type 0
Frames t r = MatchResult r (λ s. Same t s.after) (λ e. Unit {0})

frames_in : (t : Table) (c : ℕ) (es : Named ℕ) (i : Text) (o : Option ℕ) → Frames t (locate_in t c es i o)
frames_in t c es i None = (refl, refl)
frames_in t c es i (Some x) = (refl, refl)

frames_element : (t : Table) (c : ℕ) (o : Option Content) (i : Text) → Frames t (locate_element t c o i)
frames_element t c None i = (refl, refl)
frames_element t c (Some Plain) i = tt
frames_element t c (Some (Array es)) i = frames_in t c es i (get es i)

frames_named : (t : Table) (h : Home) (n : Text) (x : Slot) → Same t (record t { scopes = with_name t.scopes h n x })
frames_named t h n x = let ns = insert (names_in t.scopes h) n x in (current-with_names t.scopes h ns, length-with_names t.scopes h ns)

frames_slot : (t : Table) (h : Home) (n : Text) (o : Option Slot) (index : Option Text) → Frames t (locate_slot t h n o index)
frames_slot t h n None None = frames_named t h n (record { cell = t.next; own = true })
frames_slot t h n None (Some i) = frames_named t h n (record { cell = t.next; own = true })
frames_slot t h n (Some s) None = (refl, refl)
frames_slot t h n (Some s) (Some i) = frames_element t s.cell (get t.contents s.cell) i

pub frames_locate : (t : Table) (h : Home) (n : Text) (index : Option Text) → Frames t (locate t h n index)
frames_locate t h n index = frames_slot t h n (slot_of t.scopes h n) index

frames_cell : (t : Table) (c : ℕ) (o : Option Content) → Frames t (set_cell t c o)
frames_cell t c None = (refl, refl)
frames_cell t c (Some Plain) = (refl, refl)
frames_cell t c (Some (Array es)) = tt

frames_spot : (t : Table) (r : Result Spot VarFault) → Frames t r → Frames t (set_spot t r)
frames_spot t (Err e) k = tt
frames_spot t (Ok s) k = elim (s.fresh) as (λ b. Frames t (if b then Ok (record { cell = s.cell; fresh = b; after = plain s.after s.cell }) else set_cell t s.cell (get t.contents s.cell))) [
  | true ↦ k
  | false ↦ frames_cell t s.cell (get t.contents s.cell)
]

frames_write : (t : Table) (at : Place) (n : Text) (index : Option Text) → Frames t (write t at n index)
frames_write t at n index = let h = home t.scopes at in frames_spot t (locate t h n index) (frames_slot t h n (slot_of t.scopes h n) index)

same_frames : (m : Result Spot VarFault) (t : Table) (r : Result (ℕ × Bool) VarFault) (new : Table) → Frames t m → Gives m t r new → Same t new
same_frames m t (Ok p) new f g = subst (Frames t) g f
same_frames m t (Err e) new f g = subst (Same t) (sym g.1) (refl, refl)

pub write_frames : (t : Table) (at : Place) (n : Text) (index : Option Text) (r : Result (ℕ × Bool) VarFault) (new : Table) → Gives (write t at n index) t r new → (new.scopes.current ≡ t.scopes.current) × (length new.scopes.frames ≡ length t.scopes.frames)
write_frames t at n index r new g = same_frames (write t at n index) t r new (frames_write t at n index) g

-- a frame that was pushed is the last one, and not the global one
pub begun_last : {E : Type 0} (r : Result (Unit {0}) E) (t new : Table) (space : ℕ) (local : Bool) → OnOk r (new ≡ begun t space local) → OnOk r (new.scopes.current + 1 ≡ length new.scopes.frames)
begun_last (Ok u) t new space local e = subst (λ (x : Table). x.scopes.current + 1 ≡ length x.scopes.frames) (sym e) (sym (length-pushed t.scopes.frames _))
begun_last (Err f) t new space local e = tt

pub begun_inner : {E : Type 0} (r : Result (Unit {0}) E) (t new : Table) (space : ℕ) (local : Bool) → Sound t → OnOk r (new ≡ begun t space local) → OnOk r (0 < new.scopes.current)
begun_inner (Ok u) t new space local sound e = let c = sound.nested.current in subst (λ (x : Table). 0 < x.scopes.current) (sym e) (omega (arith, c))
begun_inner (Err f) t new space local sound e = tt
