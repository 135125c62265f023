-- What a write made is taken away again.
use Rattle.std.proofs.Common.{◌≡◌, ◌≢◌, ℕ, zero, suc, ◌+◌, ◌-◌, Bool, true, false, is_some, true≢false, List, [], ◌∷◌, Option, None, Some, refl, sym, ap, subst, ◌∙◌, arith}
use Rattle.std.specs.Prelude.{Result, Ok, Err, MatchResult, if◌then◌else◌}
use Rattle.std.specs.Option.{unwrap_or}
use Rattle.std.specs.FinMap.{get, insert, remove, empty}
use Rattle.tclv_names.specs.Keyed.{Text, Named, Numbers}
use Rattle.tclv_vars.specs.declared.parts.Slot.{Slot}
use Rattle.tclv_vars.specs.declared.parts.Frame.{Frame}
use Rattle.tclv_vars.specs.declared.parts.Content.{Content}
use Rattle.tclv_vars.specs.declared.parts.Content.TheVariants.{Plain, Array}
use Rattle.tclv_vars.specs.declared.places.Place.{Place}
use Rattle.tclv_vars.specs.declared.places.Home.{Home}
use Rattle.tclv_vars.specs.declared.places.Home.TheVariants.{Local, Of}
use Rattle.tclv_vars.specs.declared.places.Missing.{Missing}
use Rattle.tclv_vars.specs.declared.places.Missing.TheVariants as lacks
use Rattle.tclv_vars.specs.declared.faults.VarFault.{VarFault}
use Rattle.tclv_vars.specs.Scoping.{Scoping, home, names_in, name_frame, with_name, without_name, without_space, without_shared, has_names, slot_of}
use Rattle.tclv_vars.specs.Table.{Table, Spot, locate_in, locate_element, locate_slot, locate, set_cell, set_spot, plain}
use Rattle.tclv_vars.specs.Undo.{undone, missing, missing_in, missing_element, missing_slot, FreshWrite, emptied_element, emptied_in, emptied_slot, without_element, without_index, without_array, last_dropped}
use Rattle.tclv_vars.specs.Sound.{Sound}
use Rattle.tclv_vars.proofs.MapLemmas.{number_there, number_again, number_same, number_other, number_over, number_removed, text_removed}
use Rattle.tclv_vars.proofs.ScopeLemmas.{name_later, frame_names, home-with_names}
use Rattle.tclv_vars.proofs.ValueLemmas.{not_given}

undo_frame : (fs : List Frame) (i : ℕ) (n : Text) (x : Slot) → get (frame_names fs i) n ≡ None
    → name_frame (name_frame fs i (insert (frame_names fs i) n x)) i (remove (frame_names (name_frame fs i (insert (frame_names fs i) n x)) i) n) ≡ fs
undo_frame [] i n x none = refl
undo_frame (f ∷ fs) zero n x none = λ j. record f { names = text_removed f.names n x none j } ∷ fs
undo_frame (f ∷ fs) (suc i) n x none =
    let ns = insert (frame_names fs i) n x in
    ap (λ gs. name_frame gs (suc i) (remove (frame_names gs (suc i)) n)) (name_later f fs i ns)
    ∙ name_later f (name_frame fs i ns) i (remove (frame_names (name_frame fs i ns) i) n) ∙ ap (λ gs. f ∷ gs) (undo_frame fs i n x none)

-- a name that was put is taken out
pub undo_name : (s : Scoping) (h : Home) (n : Text) (x : Slot) → has_names s h ≡ true → slot_of s h n ≡ None → without_name (with_name s h n x) h n ≡ s
undo_name s (Local i) n x there none = λ j. record s { frames = undo_frame s.frames i n x none j }
undo_name s (Of a) n x there none = elim (get s.spaces a) as (λ o. get s.spaces a ≡ o → is_some o ≡ true → get (unwrap_or o empty) n ≡ None → without_name (with_name s (Of a) n x) (Of a) n ≡ s) [
  | None ↦ λ e h. absurd (true≢false (sym h))
  | Some ns ↦ λ e h f.
      let ms = insert (names_in s (Of a)) n x in
      let was : names_in s (Of a) ≡ ns = ap (λ (o : Option (Named Slot)). unwrap_or o empty) e in
      let spaces = ap (without_shared (insert s.spaces a ms) a n) (number_there s.spaces a ms)
      ∙ number_again s.spaces a (remove ms n) ms
      ∙ ap (insert s.spaces a) (ap (λ (k : Named Slot). remove (insert k n x) n) was ∙ text_removed ns n x f) ∙ number_same s.spaces a ns e in
      λ j. record s { spaces = spaces j }
] refl there none

-- the first name of a namespace is taken out with the namespace
pub undo_space : (s : Scoping) (h : Home) (n : Text) (x : Slot) → has_names s h ≡ false → without_space (with_name s h n x) h ≡ s
undo_space s (Local i) n x none = absurd (true≢false none)
undo_space s (Of a) n x none = λ j. record s { spaces = number_removed s.spaces a (insert (names_in s (Of a)) n x) (no_space (get s.spaces a) none) j }
  where
    no_space : (o : Option (Named Slot)) → is_some o ≡ false → o ≡ None
    no_space None h = refl
    no_space (Some ns) h = absurd (true≢false h)

-- the tables with a spot that is fresh can be taken back to t
abbrev pub Undoes : Table → Home → Text → Option Text → Missing → Result Spot VarFault → Type 0
Undoes t h n index lacked r = MatchResult r (λ s. s.fresh ≡ true → undone lacked s.after h n index ≡ t) (λ e. Unit {0})

one_less : (n : ℕ) → (n + 1) - 1 ≡ n
one_less n = omega arith

module _ (t : Table) (sound : Sound t) (h : Home) (n : Text) where
  new_cell : get t.contents t.next ≡ None
  new_cell = not_given t t.next sound (omega arith)

  undo_next : remove (insert t.contents t.next Plain) ((t.next + 1) - 1) ≡ t.contents
  undo_next = ap (remove (insert t.contents t.next Plain)) (one_less t.next) ∙ number_removed t.contents t.next Plain new_cell

  -- where an array came before the new cell
  undo_second : (c : ℕ) (es : Named ℕ) (k : ℕ) → k ≡ t.next + 1 → c ≡ t.next → remove (insert (insert t.contents c (Array es)) k Plain) k ≡ insert t.contents c (Array es)
  undo_second c es k e f = number_removed (insert t.contents c (Array es)) k Plain
      (number_other t.contents c (Array es) k (λ q. omega (arith, e, f, q)) ∙ not_given t k sound (omega (arith, e)))

  scopes_by : (b : Bool) → has_names t.scopes h ≡ b → slot_of t.scopes h n ≡ None → (x : Slot) → (if b then without_name (with_name t.scopes h n x) h n else without_space (with_name t.scopes h n x) h) ≡ t.scopes
  scopes_by true e none x = undo_name t.scopes h n x e none
  scopes_by false e none x = undo_space t.scopes h n x e

  two_less : ((t.next + 2) - 1) - 1 ≡ t.next
  two_less = omega arith

  two_cells : (es : Named ℕ) → remove (remove (insert (insert t.contents t.next (Array es)) (t.next + 1) Plain) ((t.next + 2) - 1)) (((t.next + 2) - 1) - 1) ≡ t.contents
  two_cells es = let e : (t.next + 2) - 1 ≡ t.next + 1 = omega arith in
      ap (λ k. remove (remove (insert (insert t.contents t.next (Array es)) (t.next + 1) Plain) k) (k - 1)) e
      ∙ ap (λ (m : Numbers Content). remove m ((t.next + 1) - 1)) (undo_second t.next es (t.next + 1) refl refl)
      ∙ ap (remove (insert t.contents t.next (Array es))) (one_less t.next) ∙ number_removed t.contents t.next (Array es) new_cell

  undo_new : (b : Bool) → has_names t.scopes h ≡ b → slot_of t.scopes h n ≡ None → (index : Option Text) → Undoes t h n index (if b then lacks.Name else lacks.Names) (set_spot t (locate_slot t h n None index))
  undo_new true e none None = λ _ i. record { scopes = scopes_by true e none (record { cell = t.next; own = true }) i; contents = undo_next i; next = one_less t.next i }
  undo_new false e none None = λ _ i. record { scopes = scopes_by false e none (record { cell = t.next; own = true }) i; contents = undo_next i; next = one_less t.next i }
  undo_new true e none (Some i) = λ _ j. record { scopes = scopes_by true e none (record { cell = t.next; own = true }) j; contents = two_cells (insert empty i (t.next + 1)) j; next = two_less j }
  undo_new false e none (Some i) = λ _ j. record { scopes = scopes_by false e none (record { cell = t.next; own = true }) j; contents = two_cells (insert empty i (t.next + 1)) j; next = two_less j }

  module _ (s : Slot) (at : slot_of t.scopes h n ≡ Some s) where
    undo_plain : (o : Option Content) → get t.contents s.cell ≡ o → Undoes t h n None lacks.Value (set_cell t s.cell o)
    undo_plain None e = λ _. ap (λ o. emptied_slot (plain t s.cell) o None) at ∙ λ i. record t { contents = number_removed t.contents s.cell Plain e i }
    undo_plain (Some Plain) e = λ f. absurd (true≢false (sym f))
    undo_plain (Some (Array es)) e = tt

    -- the cell of the name isn't the next one
    undo_after : (es : Named ℕ) → remove (insert (insert t.contents s.cell (Array es)) t.next Plain) ((t.next + 1) - 1) ≡ insert t.contents s.cell (Array es)
    undo_after es = let b = sound.named h n s at in
        ap (remove (insert (insert t.contents s.cell (Array es)) t.next Plain)) (one_less t.next)
        ∙ number_removed (insert t.contents s.cell (Array es)) t.next Plain (number_other t.contents s.cell (Array es) t.next (λ q. omega (arith, b, q)) ∙ new_cell)

    module _ (i : Text) where
      undo_array : get t.contents s.cell ≡ None → undone lacks.Array (record t { contents = insert (insert t.contents s.cell (Array (insert empty i t.next))) t.next Plain; next = t.next + 1 }) h n (Some i) ≡ t
      undo_array e =
          let after : Table = record t { contents = insert (insert t.contents s.cell (Array (insert empty i t.next))) t.next Plain; next = t.next + 1 } in
          let contents = ap (λ (m : Numbers Content). remove m s.cell) (undo_after (insert empty i t.next)) ∙ number_removed t.contents s.cell (Array (insert empty i t.next)) e in
          ap (without_array (last_dropped after)) at ∙ λ j. record t { contents = contents j; next = one_less t.next j }

      module _ (es : Named ℕ) (e : get t.contents s.cell ≡ Some (Array es)) where
        undo_index : get es i ≡ None → undone lacks.Element (record t { contents = insert (insert t.contents s.cell (Array (insert es i t.next))) t.next Plain; next = t.next + 1 }) h n (Some i) ≡ t
        undo_index g =
            let after : Table = record t { contents = insert (insert t.contents s.cell (Array (insert es i t.next))) t.next Plain; next = t.next + 1 } in
            let m = insert t.contents s.cell (Array (insert es i t.next)) in
            let cut : last_dropped after ≡ record t { contents = m } = λ j. record t { contents = undo_after (insert es i t.next) j; next = one_less t.next j } in
            let contents = number_again t.contents s.cell (Array (remove (insert es i t.next) i)) (Array (insert es i t.next))
            ∙ ap (λ (fs : Named ℕ). insert t.contents s.cell (Array fs)) (text_removed es i t.next g) ∙ number_same t.contents s.cell (Array es) e in
            ap (λ o. without_element (last_dropped after) o (Some i)) at ∙ ap (λ (u : Table). without_index u s.cell (get u.contents s.cell) i) cut
            ∙ ap (λ o. without_index (record t { contents = m }) s.cell o i) (number_there t.contents s.cell (Array (insert es i t.next))) ∙ λ j. record t { contents = contents j }

        undo_element : (x : ℕ) → get es i ≡ Some x → (o : Option Content) → get t.contents x ≡ o → Undoes t h n (Some i) lacks.Value (set_cell t x o)
        undo_element x g None k = λ _.
            let ne : s.cell ≢ x = λ q. absurd (true≢false (ap is_some (sym e ∙ ap (get t.contents) q ∙ k))) in
            ap (λ o. emptied_slot (plain t x) o (Some i)) at
            ∙ ap (λ o. emptied_element (plain t x) o i) (number_other t.contents x Plain s.cell ne ∙ e)
            ∙ ap (emptied_in (plain t x)) g ∙ λ j. record t { contents = number_removed t.contents x Plain k j }
        undo_element x g (Some Plain) k = λ f. absurd (true≢false (sym f))
        undo_element x g (Some (Array fs)) k = tt

        undo_in : (p : Option ℕ) → get es i ≡ p → Undoes t h n (Some i) (missing_in p) (set_spot t (locate_in t s.cell es i p))
        undo_in None g = λ _. undo_index g
        undo_in (Some x) g = undo_element x g (get t.contents x) refl

      undo_of : (o : Option Content) → get t.contents s.cell ≡ o → Undoes t h n (Some i) (missing_element o i) (set_spot t (locate_element t s.cell o i))
      undo_of None e = λ _. undo_array e
      undo_of (Some Plain) e = tt
      undo_of (Some (Array es)) e = undo_in es e (get es i) refl

  undo_slot : (o : Option Slot) → slot_of t.scopes h n ≡ o → (index : Option Text) → Undoes t h n index (missing_slot t h o index) (set_spot t (locate_slot t h n o index))
  undo_slot None e index = undo_new (has_names t.scopes h) refl e index
  undo_slot (Some s) e None = undo_plain s e (get t.contents s.cell) refl
  undo_slot (Some s) e (Some i) = undo_of s e i (get t.contents s.cell) refl

-- something beyond the value was missing
abbrev Lacks : Missing → Type 0
Lacks lacks.Value = ⊥
Lacks lacks.Element = Unit {0}
Lacks lacks.Array = Unit {0}
Lacks lacks.Name = Unit {0}
Lacks lacks.Names = Unit {0}

-- A spot that is fresh has the last number that was given out, and another one changed nothing.
abbrev MadeLast : Table → Missing → Result Spot VarFault → Type 0
MadeLast t lacked r = MatchResult r (λ s. (s.fresh ≡ true → (s.cell ≡ s.after.next - 1) × Lacks lacked) × (s.fresh ≡ false → s.after ≡ t)) (λ e. Unit {0})

last_in : (t : Table) (c : ℕ) (es : Named ℕ) (i : Text) (o : Option ℕ) → MadeLast t (missing_in o) (locate_in t c es i o)
last_in t c es i None = (λ _. (sym (one_less t.next), tt), λ h. absurd (true≢false h))
last_in t c es i (Some e) = (λ h. absurd (true≢false (sym h)), λ _. refl)

last_element : (t : Table) (c : ℕ) (o : Option Content) (i : Text) → MadeLast t (missing_element o i) (locate_element t c o i)
last_element t c None i = (λ _. (sym (one_less t.next), tt), λ h. absurd (true≢false h))
last_element t c (Some Plain) i = tt
last_element t c (Some (Array es)) i = last_in t c es i (get es i)

one_of_two : (n : ℕ) → n + 1 ≡ (n + 2) - 1
one_of_two n = omega arith

last_new : (t : Table) (h : Home) (n : Text) (b : Bool) (index : Option Text) → MadeLast t (if b then lacks.Name else lacks.Names) (locate_slot t h n None index)
last_new t h n true None = (λ _. (sym (one_less t.next), tt), λ e. absurd (true≢false e))
last_new t h n false None = (λ _. (sym (one_less t.next), tt), λ e. absurd (true≢false e))
last_new t h n true (Some i) = (λ _. (one_of_two t.next, tt), λ e. absurd (true≢false e))
last_new t h n false (Some i) = (λ _. (one_of_two t.next, tt), λ e. absurd (true≢false e))

last_slot : (t : Table) (h : Home) (n : Text) (o : Option Slot) (index : Option Text) → MadeLast t (missing_slot t h o index) (locate_slot t h n o index)
last_slot t h n None index = last_new t h n (has_names t.scopes h) index
last_slot t h n (Some s) None = (λ e. absurd (true≢false (sym e)), λ _. refl)
last_slot t h n (Some s) (Some i) = last_element t s.cell (get t.contents s.cell) i

-- what the last cell holds doesn't matter where it is dropped
plain_dropped : (u : Table) (c : ℕ) (s : Scoping) → c ≡ u.next - 1 → last_dropped (record (plain u c) { scopes = s }) ≡ last_dropped (record u { scopes = s })
plain_dropped u c s e =
    let contents = ap (λ k. remove (insert u.contents k Plain) (u.next - 1)) e ∙ number_over u.contents (u.next - 1) Plain in
    λ i. record { scopes = s; contents = contents i; next = u.next - 1 }

undone_plain : (lacked : Missing) (u : Table) (c : ℕ) (h : Home) (n : Text) (index : Option Text) → c ≡ u.next - 1 → Lacks lacked → undone lacked (plain u c) h n index ≡ undone lacked u h n index
undone_plain lacks.Value u c h n index e l = absurd l
undone_plain lacks.Element u c h n index e l = ap (λ v. without_element v (slot_of u.scopes h n) index) (plain_dropped u c u.scopes e)
undone_plain lacks.Array u c h n index e l = ap (λ v. without_array v (slot_of u.scopes h n)) (plain_dropped u c u.scopes e)
undone_plain lacks.Name u c h n None e l = plain_dropped u c (without_name u.scopes h n) e
undone_plain lacks.Name u c h n (Some i) e l = ap last_dropped (plain_dropped u c (without_name u.scopes h n) e)
undone_plain lacks.Names u c h n None e l = plain_dropped u c (without_space u.scopes h) e
undone_plain lacks.Names u c h n (Some i) e l = ap last_dropped (plain_dropped u c (without_space u.scopes h) e)

-- what was made to find a cell is taken away again
module _ (t : Table) (h : Home) (n : Text) (index : Option Text) (s : Spot) (at : locate t h n index ≡ Ok s) where
  made : (s.fresh ≡ true → (s.cell ≡ s.after.next - 1) × Lacks (missing_slot t h (slot_of t.scopes h n) index)) × (s.fresh ≡ false → s.after ≡ t)
  made = subst (MadeLast t (missing_slot t h (slot_of t.scopes h n) index)) at (last_slot t h n (slot_of t.scopes h n) index)

  pub undo_locate : Sound t → s.fresh ≡ true → undone (missing_slot t h (slot_of t.scopes h n) index) s.after h n index ≡ t
  undo_locate sound f =
      let spot : set_spot t (locate t h n index) ≡ Ok (record s { after = plain s.after s.cell }) = ap (set_spot t) at
      ∙ ap (λ b. if b then Ok (record s { after = plain s.after s.cell }) else set_cell t s.cell (get t.contents s.cell)) f in
      let back : s.fresh ≡ true → undone (missing_slot t h (slot_of t.scopes h n) index) (plain s.after s.cell) h n index ≡ t =
      subst (Undoes t h n index (missing_slot t h (slot_of t.scopes h n) index)) spot (undo_slot t sound h n (slot_of t.scopes h n) refl index) in
      sym (undone_plain (missing_slot t h (slot_of t.scopes h n) index) s.after s.cell h n index (made.0 f).0 (made.0 f).1) ∙ back f

  pub same_locate : s.fresh ≡ false → s.after ≡ t
  same_locate = made.1

-- a write leaves where names are looked up
abbrev Homes : Table → Place → Result Spot VarFault → Type 0
Homes t at r = MatchResult r (λ s. home s.after.scopes at ≡ home t.scopes at) (λ e. Unit {0})

homes_in : (t : Table) (at : Place) (c : ℕ) (es : Named ℕ) (i : Text) (o : Option ℕ) → Homes t at (locate_in t c es i o)
homes_in t at c es i None = refl
homes_in t at c es i (Some x) = refl

homes_element : (t : Table) (at : Place) (c : ℕ) (o : Option Content) (i : Text) → Homes t at (locate_element t c o i)
homes_element t at c None i = refl
homes_element t at c (Some Plain) i = tt
homes_element t at c (Some (Array es)) i = homes_in t at c es i (get es i)

homes_slot : (t : Table) (at : Place) (h : Home) (n : Text) (o : Option Slot) (index : Option Text) → Homes t at (locate_slot t h n o index)
homes_slot t at h n None None = home-with_names t.scopes h (insert (names_in t.scopes h) n (record { cell = t.next; own = true })) at
homes_slot t at h n None (Some i) = home-with_names t.scopes h (insert (names_in t.scopes h) n (record { cell = t.next; own = true })) at
homes_slot t at h n (Some s) None = refl
homes_slot t at h n (Some s) (Some i) = homes_element t at s.cell (get t.contents s.cell) i

homes_cell : (t : Table) (at : Place) (c : ℕ) (o : Option Content) → Homes t at (set_cell t c o)
homes_cell t at c None = refl
homes_cell t at c (Some Plain) = refl
homes_cell t at c (Some (Array es)) = tt

homes_spot : (t : Table) (at : Place) (r : Result Spot VarFault) → Homes t at r → Homes t at (set_spot t r)
homes_spot t at (Err e) k = tt
homes_spot t at (Ok s) k = elim (s.fresh) as (λ b. Homes t at (if b then Ok (record { cell = s.cell; fresh = b; after = plain s.after s.cell }) else set_cell t s.cell (get t.contents s.cell))) [
  | true ↦ k
  | false ↦ homes_cell t at s.cell (get t.contents s.cell)
]

pub homes_locate : (t : Table) (at : Place) (h : Home) (n : Text) (index : Option Text) (s : Spot) → locate t h n index ≡ Ok s → home s.after.scopes at ≡ home t.scopes at
homes_locate t at h n index s e = subst (Homes t at) e (homes_slot t at h n (slot_of t.scopes h n) index)

pub homes_write : (t : Table) (at : Place) (h : Home) (n : Text) (index : Option Text) (s : Spot) → set_spot t (locate t h n index) ≡ Ok s → home s.after.scopes at ≡ home t.scopes at
homes_write t at h n index s e = subst (Homes t at) e (homes_spot t at (locate t h n index) (homes_slot t at h n (slot_of t.scopes h n) index))

pub undo_write : (t : Table) (at : Place) (n : Text) (index : Option Text) (lacked : Missing) (now : Table) → FreshWrite t at n index lacked now → undone lacked now (home now.scopes at) n index ≡ t
undo_write t at n index lacked now f =
    let h = home t.scopes at in
    let o = slot_of t.scopes h n in
    let there : home now.scopes at ≡ h = subst (Homes t at) f.wrote (homes_spot t at (locate_slot t h n o index) (homes_slot t at h n o index)) in
    let back : true ≡ true → undone (missing t at n index) now h n index ≡ t = subst (Undoes t h n index (missing t at n index)) f.wrote (undo_slot t f.sound h n o refl index) in
    ap (λ m. undone m now (home now.scopes at) n index) f.lacks ∙ ap (λ k. undone (missing t at n index) now k n index) there ∙ back refl
