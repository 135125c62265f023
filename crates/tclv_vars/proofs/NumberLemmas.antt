-- The cells of names, and those that hold something, were given out: their numbers are below the next one.
use Rattle.std.proofs.Common.{◌≡◌, ℕ, ◌+◌, ◌<◌, ◌≤◌, inl, inr, true, false, Option, None, Some, refl, ap, subst, arith}
use Rattle.std.specs.Prelude.{Result, Ok, MatchResult}
use Rattle.std.specs.FinMap.{get, insert, empty}
use Rattle.tclv_names.specs.Keyed.{Text, Named}
use Rattle.tclv_vars.specs.declared.parts.Slot.{Slot}
use Rattle.tclv_vars.specs.declared.parts.Content.{Content}
use Rattle.tclv_vars.specs.declared.parts.Content.TheVariants.{Plain, Array}
use Rattle.tclv_vars.specs.declared.places.Home.{Home}
use Rattle.tclv_vars.specs.declared.faults.VarFault.{VarFault}
use Rattle.tclv_vars.specs.Scoping.{slot_of}
use Rattle.tclv_vars.specs.Table.{Table, Spot, named, new_name, new_array, new_element, locate_in, locate_element, locate_slot, locate}
use Rattle.tclv_vars.specs.Links.{second_name}
use Rattle.tclv_vars.specs.Sound.{Sound}
use Rattle.tclv_vars.proofs.ScopeLemmas.{slot_cases}
use Rattle.tclv_vars.proofs.SoundLemmas.{content_cases}

pub record Numbered (t : Table) : Type 0 where
  pub named : (h : Home) (n : Text) (s : Slot) → slot_of t.scopes h n ≡ Some s → s.cell < t.next
  pub given : (c : ℕ) (x : Content) → get t.contents c ≡ Some x → c < t.next

pub numbered : (t : Table) → Sound t → Numbered t
numbered t sound = record { named = sound.named; given = sound.given }

-- nothing stands at a number that wasn't given out
pub beyond : (t : Table) (c : ℕ) → Numbered t → t.next ≤ c → get t.contents c ≡ None
beyond t c numbered h = elim (get t.contents c) as (λ o. get t.contents c ≡ o → o ≡ None) [
  | None ↦ λ e. refl
  | Some x ↦ λ e. let b = numbered.given c x e in absurd (omega (arith, b, h))
] refl

numbered_name : (t : Table) (h : Home) (n : Text) → Numbered t → Numbered (new_name t h n).after
numbered_name t h n numbered = record {
  named = λ k m s at. elim (slot_cases t.scopes h n (record { cell = t.next; own = true }) k m s at) as (λ _. s.cell < t.next + 1) [
    | inl p ↦ let e : s.cell ≡ t.next = ap (λ (x : Slot). x.cell) p.2 in omega (arith, e)
    | inr g ↦ let b = numbered.named k m s g in omega (arith, b)
  ];
  given = λ c x at. let b = numbered.given c x at in omega (arith, b);
}

numbered_element : (t : Table) (c : ℕ) (es : Named ℕ) (i : Text) → c < t.next → Numbered t → Numbered (new_element t c es i).after
numbered_element t c es i below numbered = record {
  named = λ k m s at. let b = numbered.named k m s at in omega (arith, b);
  given = λ a x at. elim (content_cases t.contents c (Array (insert es i t.next)) a x at) as (λ _. a < t.next + 1) [
    | inl p ↦ let q = p.0 in omega (arith, q, below)
    | inr g ↦ let b = numbered.given a x g in omega (arith, b)
  ];
}

numbered_array : (t : Table) (h : Home) (n i : Text) → Numbered t → Numbered (new_array t h n i).after
numbered_array t h n i numbered =
    let e : (t.next + 1) + 1 ≡ t.next + 2 = omega arith in
    subst (λ x. Numbered (record { scopes = named t h n; contents = insert t.contents t.next (Array (insert empty i (t.next + 1))); next = x })) e
    (numbered_element (new_name t h n).after t.next empty i (omega arith) (numbered_name t h n numbered))

-- a second name of a cell that was given out
pub numbered_link : (t : Table) (h : Home) (n : Text) (c : ℕ) → c < t.next → Numbered t → Numbered (second_name t h n c)
numbered_link t h n c below numbered = record {
  named = λ k m s at. elim (slot_cases t.scopes h n (record { cell = c; own = false }) k m s at) as (λ _. s.cell < t.next) [
    | inl p ↦ let e : s.cell ≡ c = ap (λ (x : Slot). x.cell) p.2 in omega (arith, e, below)
    | inr g ↦ numbered.named k m s g
  ];
  given = numbered.given;
}

-- the cell that is found was given out
abbrev AllNumbered : Result Spot VarFault → Type 0
AllNumbered r = MatchResult r (λ s. Numbered s.after × (s.cell < s.after.next)) (λ e. Unit {0})

module _ (t : Table) (sound : Sound t) where
  numbered_in : (c : ℕ) (es : Named ℕ) (i : Text) (o : Option ℕ) → get t.contents c ≡ Some (Array es) → get es i ≡ o → AllNumbered (locate_in t c es i o)
  numbered_in c es i None e f = (numbered_element t c es i (sound.given c (Array es) e) (numbered t sound), omega arith)
  numbered_in c es i (Some x) e f = (numbered t sound, sound.inside c es i x e f)

  numbered_of : (c : ℕ) (o : Option Content) (i : Text) → c < t.next → get t.contents c ≡ o → AllNumbered (locate_element t c o i)
  numbered_of c None i b e = (numbered_element t c empty i b (numbered t sound), omega arith)
  numbered_of c (Some Plain) i b e = tt
  numbered_of c (Some (Array es)) i b e = numbered_in c es i (get es i) e refl

  numbered_slot : (h : Home) (n : Text) (o : Option Slot) (index : Option Text) → slot_of t.scopes h n ≡ o → AllNumbered (locate_slot t h n o index)
  numbered_slot h n None None e = (numbered_name t h n (numbered t sound), omega arith)
  numbered_slot h n None (Some i) e = (numbered_array t h n i (numbered t sound), omega arith)
  numbered_slot h n (Some s) None e = (numbered t sound, sound.named h n s e)
  numbered_slot h n (Some s) (Some i) e = numbered_of s.cell (get t.contents s.cell) i (sound.named h n s e) refl

  pub numbered_locate : (h : Home) (n : Text) (index : Option Text) (s : Spot) → locate t h n index ≡ Ok s → Numbered s.after × (s.cell < s.after.next)
  numbered_locate h n index s e = subst AllNumbered e (numbered_slot h n (slot_of t.scopes h n) index refl)
