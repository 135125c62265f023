-- What a link leaves.
use Rattle.std.proofs.Common.{◌≡◌, ℕ, Bool, true, false, Option, refl, sym, subst, IfSome, IfErr, OnErr, ◌∙◌}
use Rattle.std.specs.Prelude.{Result, Ok, Err, MatchResult, OnOk, if◌then◌else◌}
use Rattle.std.specs.FinMap.{insert}
use Rattle.tclv_text.specs.Texts.{IsText}
use Rattle.tclv_names.specs.Keyed.{Text}
use Rattle.tclv_vars.specs.declared.parts.Slot.{Slot}
use Rattle.tclv_vars.specs.declared.places.Home.{Home}
use Rattle.tclv_vars.specs.declared.places.Place.TheVariants as place
use Rattle.tclv_vars.specs.declared.places.Root.{Root}
use Rattle.tclv_vars.specs.declared.faults.VarFault.{VarFault}
use Rattle.tclv_vars.specs.declared.faults.VarFault.TheVariants as fault
use Rattle.tclv_vars.specs.Scoping.{home, names_in, slot_of}
use Rattle.tclv_vars.specs.Table.{Table, Spot, locate, has_value, Refuses}
use Rattle.tclv_vars.specs.Links.{root_home, is_variable, link_cell, link_to, linked, Leaves}
use Rattle.tclv_vars.specs.Sound.{Sound}
use Rattle.tclv_vars.proofs.ScopeLemmas.{length-with_names, current-with_names}
use Rattle.tclv_vars.proofs.SoundLemmas.{After, After-locate, Sound-second_name}
use Rattle.tclv_vars.proofs.ValueLemmas.{Kept, Kept-locate}
use Rattle.tclv_vars.proofs.FrameLemmas.{Same, Frames, frames_locate}

-- the tables that a link leaves are sound, and no cell got a value or lost it, and no frame came or went
pub record Linked (t u : Table) : Type 0 where
  pub sound : Sound u
  pub values : (c : ℕ) → has_value u c ≡ has_value t c
  pub frames : Same t u

abbrev AllLinked : Table → Result Table VarFault → Type 0
AllLinked t r = MatchResult r (λ u. Linked t u) (λ e. Unit {0})

by_cell : (t : Table) (h : Home) (local : Text) (r : Result Spot VarFault) → After r → Kept t r → Frames t r → AllLinked t (link_to h local r)
by_cell t h local (Err e) a k f = tt
by_cell t h local (Ok s) a k f =
    let put : Slot = record { cell = s.cell; own = false } in
    let ns = insert (names_in s.after.scopes h) local put in
    record {
      sound = Sound-second_name s.after h local s.cell a.1 a.0;
      values = k.0;
      frames = (current-with_names s.after.scopes h ns ∙ f.0, length-with_names s.after.scopes h ns ∙ f.1);
    }

module _ (t : Table) (local name : Text) (index : Option Text) (text : IfSome index IsText) (sound : Sound t) where
  by_name : (h k : Home) (b : Bool) → AllLinked t (link_to h local (if b then Err fault.LinkExists else locate t k name index))
  by_name h k true = tt
  by_name h k false = by_cell t h local (locate t k name index) (After-locate t k name index text sound) (Kept-locate t k name index sound) (frames_locate t k name index)

  by_home : (h : Home) (r : Result Home VarFault) → AllLinked t (link_to h local (link_cell t local name index r))
  by_home h (Err e) = tt
  by_home h (Ok k) = by_name h k (is_variable t.contents (slot_of t.scopes (home t.scopes place.Frame) local))

  all_linked : (r : Root) → AllLinked t (linked t local r name index)
  all_linked r = by_home (home t.scopes place.Frame) (root_home t.scopes r)

same_tables : (t : Table) → Sound t → Linked t t
same_tables t sound = record { sound = sound; values = λ c. refl; frames = (refl, refl) }

leaves_linked : (m : Result Table VarFault) (t : Table) (r : Result (Unit {0}) VarFault) (new : Table) → AllLinked t m → Sound t → Leaves m t r new → Linked t new
leaves_linked m t (Ok u) new a sound l = subst (AllLinked t) l a
leaves_linked m t (Err e) new a sound l = subst (Linked t) (sym l.1) (same_tables t sound)

pub link_leaves : (t : Table) (local : Text) (root : Root) (name : Text) (index : Option Text) (r : Result (Unit {0}) VarFault) (new : Table) → IfSome index IsText → Sound t
    → Leaves (linked t local root name index) t r new → Linked t new
link_leaves t local root name index r new text sound l = leaves_linked (linked t local root name index) t r new (all_linked t local name index text sound root) sound l

pub leaves_ok : (m : Result Table VarFault) (t : Table) (r : Result (Unit {0}) VarFault) (new : Table) → Leaves m t r new → OnOk r (m ≡ Ok new)
leaves_ok m t (Ok u) new l = l
leaves_ok m t (Err e) new l = tt

pub leaves_fault : (m : Result Table VarFault) (t : Table) (r : Result (Unit {0}) VarFault) (new : Table) → Leaves m t r new → IfErr r (Refuses m)
leaves_fault m t (Ok u) new l = tt
leaves_fault m t (Err e) new l = l.0

pub leaves_same : (m : Result Table VarFault) (t : Table) (r : Result (Unit {0}) VarFault) (new : Table) → Leaves m t r new → OnErr r (new ≡ t)
leaves_same m t (Ok u) new l = tt
leaves_same m t (Err e) new l = l.1

pub locate_keeps : (t : Table) (h : Home) (name : Text) (index : Option Text) (s : Spot) → locate t h name index ≡ Ok s → Same t s.after
locate_keeps t h name index s e = subst (Frames t) e (frames_locate t h name index)
