-- The laws of variables.
use Rattle.std.proofs.Common.{◌≡◌, ◌≢◌, ℕ, ◌-◌, ◌<◌, true, false, cond, not, ◌||◌, is_some, true≢false, inl, inr, length, slice_get, Option, None, Some, refl, sym, ap, subst, ◌∙◌, arith}
use Rattle.std.specs.Prelude.{Result, Ok, Err, if◌then◌else◌, nat_lt}
use Rattle.std.specs.Option.{option_map_or}
use Rattle.std.specs.Cmp.{unsigned_ties, eq_by_cmp_equiv, nat_cmp_total}
use Rattle.std.specs.FinMap.{get, insert}
use Rattle.tclv_names.specs.Keyed.{Text, Numbers}
use Rattle.tclv_vars.specs.declared.parts.Frame.{Frame}
use Rattle.tclv_vars.specs.declared.parts.Slot.{Slot}
use Rattle.tclv_vars.specs.declared.parts.Content.{Content}
use Rattle.tclv_vars.specs.declared.parts.Content.TheVariants.{Plain, Array}
use Rattle.tclv_vars.specs.declared.places.Home.{Home}
use Rattle.tclv_vars.specs.declared.places.Home.TheVariants.{Local, Of}
use Rattle.tclv_vars.specs.declared.places.Place.{Place}
use Rattle.tclv_vars.specs.declared.places.Place.TheVariants as place
use Rattle.tclv_vars.specs.declared.places.Root.{Root}
use Rattle.tclv_vars.specs.declared.places.Root.TheVariants as root
use Rattle.tclv_vars.specs.declared.faults.VarFault.{VarFault}
use Rattle.tclv_vars.specs.declared.faults.VarFault.TheVariants as fault
use Rattle.tclv_vars.specs.Scoping.{Scoping, home, home_of, slot_of, names_in, level_of, above}
use Rattle.tclv_vars.specs.Table.{Table, Spot, locate, read, write, read_slot, read_in, read_element, plain_at}
use Rattle.tclv_vars.specs.Sound.{Sound}
use Rattle.tclv_vars.specs.Clearing.{without, is_among, freed, elements}
use Rattle.tclv_vars.specs.Links.{root_home, is_variable, second_name, link_to, link_cell}
use Rattle.tclv_vars.specs.Unset.{held_at, held_in, held_element, held_slot, variable, unset_at, unset}
use Rattle.tclv_vars.specs.Laws.{IsThere, cell_slot, cell_of, read_there, ReadsBack, StaysOnCells, ReadsAlike, StandsForNone, vacant, set_by, WriteLeavesOthers, IsLinked, IsNoElementOfIt, IsSecondName, IsGone, array_made, LinkLeavesOthers, cleared_by, UnsetLeavesOthers}
use Rattle.tclv_vars.proofs.ClearLemmas.{get-without}
use Rattle.tclv_vars.proofs.ScopeLemmas.{above_level, home-with_names, length-with_names}
use Rattle.tclv_vars.proofs.NumberLemmas.{Numbered, numbered, numbered_link, numbered_locate}
use Rattle.tclv_vars.proofs.UndoLemmas.{homes_locate, homes_write}
use Rattle.tclv_vars.proofs.LinkLemmas.{locate_keeps}
use Rattle.tclv_vars.proofs.CellLemmas.{wrote, located, slot_here, slot_with, one_cell, read_cell, cell_grows, same_ok, no_err}
use Rattle.tclv_vars.proofs.OtherLemmas.{set_write, made, reads_alike, among_left, among_right, is_vacant, slot_stays}

pub there_of : (s : Scoping) (i : ℕ) → i < length s.frames → IsThere s (home_of s i)
there_of s i b = elim (slice_get s.frames i) as (λ o. IsThere s (option_map_or (λ (f : Frame). if f.local then Local i else Of f.space) o (Local i))) [
  | None ↦ b
  | Some f ↦ elim (f.local) as (λ l. IsThere s (if l then Local i else Of f.space)) [ true ↦ b | false ↦ tt ]
]

pub there_at : (t : Table) (at : Place) → Sound t → IsThere t.scopes (home t.scopes at)
there_at t place.Frame sound = there_of t.scopes t.scopes.current sound.nested.current
there_at t (place.Space n) sound = tt

pub reads_back : (t : Table) (at : Place) (n : Text) (index : Option Text) → Sound t → ReadsBack t at n index
reads_back t at n index sound s e =
    let h = home t.scopes at in
    let w = wrote t h n index s (numbered t sound) (there_at t at sound) e in
    ap (λ k. read_there s.after k n index) (homes_write t at h n index s e) ∙ read_cell s.after h n index s.cell w.cell w.value

-- Links

there_same : (s o : Scoping) (h : Home) → length o.frames ≡ length s.frames → IsThere s h → IsThere o h
there_same s o (Local i) e b = omega (arith, e, b)
there_same s o (Of n) e b = tt

there_root : (t : Table) (r : Root) (h : Home) → Sound t → root_home t.scopes r ≡ Ok h → IsThere t.scopes h
there_root t (root.Space n) h sound e = subst (IsThere t.scopes) (same_ok (Of n) h e) tt
there_root t (root.Level l) h sound e =
    let k = level_of t.scopes t.scopes.current - l in
    let frame = above t.scopes k t.scopes.current in
    let b = (above_level t.scopes k t.scopes.current sound.nested sound.nested.current (omega arith)).0 in
    elim (nat_lt (level_of t.scopes t.scopes.current) l) as (λ x. ◌≡◌ {A = Result Home VarFault} (if x then Err fault.NoLevel else Ok (home_of t.scopes frame)) (Ok h) → IsThere t.scopes h) [
      | true ↦ λ f. no_err f
      | false ↦ λ f. subst (IsThere t.scopes) (same_ok (home_of t.scopes frame) h f) (there_of t.scopes frame b)
    ] e

-- the cell that a link found, and the tables that it left
record Found (t : Table) (here : Home) (local : Text) (r : Result Spot VarFault) (u : Table) : Type 0 where
  spot : Spot
  at : r ≡ Ok spot
  after : second_name spot.after here local spot.cell ≡ u

found_by : (t : Table) (here : Home) (local : Text) (r : Result Spot VarFault) (u : Table) → link_to here local r ≡ Ok u → Found t here local r u
found_by t here local (Err e) u h = no_err h
found_by t here local (Ok s) u h = record { spot = s; at = refl; after = same_ok (second_name s.after here local s.cell) u h }

found_name : (t : Table) (local name : Text) (index : Option Text) (h : Home) (u : Table) → link_to (home t.scopes place.Frame) local (link_cell t local name index (Ok h)) ≡ Ok u → Found t (home t.scopes place.Frame) local (locate t h name index) u
found_name t local name index h u e =
    let here = home t.scopes place.Frame in
    elim (is_variable t.contents (slot_of t.scopes here local)) as (λ b. link_to here local (if b then Err fault.LinkExists else locate t h name index) ≡ Ok u → Found t here local (locate t h name index) u) [
      | true ↦ λ f. no_err f
      | false ↦ λ f. found_by t here local (locate t h name index) u f
    ] e

found_link : (t : Table) (local : Text) (r : Root) (name : Text) (index : Option Text) (h : Home) (u : Table) → IsLinked t local r name index h u → Found t (home t.scopes place.Frame) local (locate t h name index) u
found_link t local r name index h u l = found_name t local name index h u (ap (λ x. link_to (home t.scopes place.Frame) local (link_cell t local name index x)) (sym l.root) ∙ l.linked)

module _ (t : Table) (local : Text) (r : Root) (name : Text) (index : Option Text) (h : Home) (u : Table) (sound : Sound t) (l : IsLinked t local r name index h u) (apart : IsNoElementOfIt t local h name index) where
  abbrev here : Home
  here = home t.scopes place.Frame

  -- both names stand for the cell that was found
  both : (s : Spot) → locate t h name index ≡ Ok s → (cell_of (second_name s.after here local s.cell) here local None ≡ Some s.cell) × (cell_of (second_name s.after here local s.cell) h name index ≡ Some s.cell)
  both s at =
      let put : Slot = record { cell = s.cell; own = false } in
      let v : Table = second_name s.after here local s.cell in
      let found = located t h name index s (numbered t sound) (there_root t r h sound l.root) at in
      let near = there_same t.scopes s.after.scopes here (locate_keeps t h name index s at).1 (there_at t place.Frame sound) in
      let mine : cell_of v here local None ≡ Some s.cell = ap (λ o. cell_slot v.contents o None) (slot_here s.after.scopes here local put near) in
      let by : (j : Option Text) → index ≡ j → here ≡ h → local ≡ name → cell_of v h name j ≡ Some s.cell = λ j e p q. elim j as (λ j. index ≡ j → cell_of v h name j ≡ Some s.cell) [
        | None ↦ λ _. ap (λ k. cell_of v k name None) (sym p) ∙ ap (λ m. cell_of v here m None) (sym q) ∙ mine
        | Some i ↦ λ e. absurd (apart i e p q)
      ] e in (
        mine,
        elim (slot_with s.after.scopes here local put h name) as (λ _. cell_of v h name index ≡ Some s.cell) [
          | inl p ↦ by index refl p.0 p.1
          | inr g ↦ ap (λ o. cell_slot s.after.contents o index) g ∙ found.cell
        ],
      )

  pub second_names : IsSecondName local name index h u
  second_names =
      let found = found_link t local r name index h u l in
      let q = found.spot in
      let put : Slot = record { cell = q.cell; own = false } in
      let ns = insert (names_in q.after.scopes here) local put in
      let given = numbered_locate t sound h name index q found.at in
      let numbers : Numbered u = subst Numbered found.after (numbered_link q.after here local q.cell given.1 given.0) in
      let frames : length u.scopes.frames ≡ length t.scopes.frames = ap (λ (v : Table). length v.scopes.frames) (sym found.after) ∙ length-with_names q.after.scopes here ns ∙ (locate_keeps t h name index q found.at).1 in
      let cells = both q found.at in
      let mine : cell_of u here local None ≡ Some q.cell = ap (λ v. cell_of v here local None) (sym found.after) ∙ cells.0 in
      let other : cell_of u h name index ≡ Some q.cell = ap (λ v. cell_of v h name index) (sym found.after) ∙ cells.1 in
      let home_same : home u.scopes place.Frame ≡ here = ap (λ (v : Table). home v.scopes place.Frame) (sym found.after) ∙ home-with_names q.after.scopes here ns place.Frame ∙ homes_locate t place.Frame h name index q found.at in
      let local_cell : cell_of u (home u.scopes place.Frame) local None ≡ Some q.cell = ap (λ k. cell_of u k local None) home_same ∙ mine in
      let near : IsThere u.scopes (home u.scopes place.Frame) = subst (IsThere u.scopes) (sym home_same) (there_same t.scopes u.scopes here frames (there_at t place.Frame sound)) in
      record {
        forth = λ s e. one_cell u (home u.scopes place.Frame) h local name None index q.cell numbers near local_cell other s e;
        back = λ s e. ap (λ k. read_there s.after k local None) (homes_write u place.Frame h name index s e)
            ∙ one_cell u h (home u.scopes place.Frame) name local index None q.cell numbers (there_same t.scopes u.scopes h frames (there_root t r h sound l.root)) other local_cell s e;
      }

-- Unsetting

held_ok : (missing : VarFault) (o : Option Content) (c k : ℕ) → held_at missing o c ≡ Ok k → c ≡ k
held_ok missing None c k h = no_err h
held_ok missing (Some x) c k h = same_ok c k h

gone_at : (missing : VarFault) (ds : Numbers Content) (c k q : ℕ) → c ≡ k → get ds k ≡ None → held_at missing (get ds c) c ≢ Ok q
gone_at missing ds c k q e none h = no_err (sym (ap (λ j. held_at missing (get ds j) c) e ∙ ap (λ o. held_at missing o c) none) ∙ h)

element_gone : (cs ds : Numbers Content) (o : Option Content) (i : Text) (k q : ℕ) → held_element cs o i ≡ Ok k → get ds k ≡ None → held_element ds o i ≢ Ok q
element_gone cs ds None i k q h none = λ e. no_err e
element_gone cs ds (Some Plain) i k q h none = λ e. no_err e
element_gone cs ds (Some (Array es)) i k q h none = elim (get es i) as (λ p. held_in cs p ≡ Ok k → held_in ds p ≢ Ok q) [
  | None ↦ λ g e. no_err e
  | Some x ↦ λ g. gone_at fault.NoElement ds x k q (held_ok fault.NoElement (get cs x) x k g) none
] h

cleared_cell : (cs : Numbers Content) (k : ℕ) → get (without cs (freed cs k)) k ≡ None
cleared_cell cs k = get-without cs (freed cs k) k ∙ ap (λ b. cond (not (b || is_among (elements (get cs k)) k)) (get cs k) None) (unsigned_ties k k ∙ (eq_by_cmp_equiv nat_cmp_total).refl k)

slot_gone : (cs : Numbers Content) (o : Option Slot) (index : Option Text) (k q : ℕ) → held_slot cs o index ≡ Ok k → held_slot (without cs (freed cs k)) o index ≢ Ok q
slot_gone cs None index k q h = λ e. no_err e
slot_gone cs (Some s) None k q h = gone_at fault.NoVariable (without cs (freed cs k)) s.cell k q (held_ok fault.NoVariable (get cs s.cell) s.cell k h) (cleared_cell cs k)
slot_gone cs (Some s) (Some i) k q h = λ e. elim (not (is_among (freed cs k) s.cell)) as (λ b. held_element (without cs (freed cs k)) (cond b (get cs s.cell) None) i ≡ Ok q → ⊥) [
  | true ↦ element_gone cs (without cs (freed cs k)) (get cs s.cell) i k q h (cleared_cell cs k)
  | false ↦ λ f. no_err f
] (ap (λ o. held_element (without cs (freed cs k)) o i) (sym (get-without cs (freed cs k) s.cell)) ∙ e)

unset_gone : (t : Table) (o : Option Slot) (index : Option Text) (r : Result ℕ VarFault) (q : ℕ) → held_slot t.contents o index ≡ r → held_slot (unset_at t r).contents o index ≢ Ok q
unset_gone t o index (Err f) q e = λ h. no_err (sym e ∙ h)
unset_gone t o index (Ok k) q e = slot_gone t.contents o index k q e

-- what is read is set
plain_held : (missing : VarFault) (o : Option Content) (c q : ℕ) → plain_at missing o c ≡ Ok q → held_at missing o c ≡ Ok q
plain_held missing None c q h = no_err h
plain_held missing (Some Plain) c q h = h
plain_held missing (Some (Array es)) c q h = no_err h

in_held : (cs : Numbers Content) (o : Option ℕ) (q : ℕ) → read_in cs o ≡ Ok q → held_in cs o ≡ Ok q
in_held cs None q h = no_err h
in_held cs (Some e) q h = plain_held fault.NoElement (get cs e) e q h

element_held : (cs : Numbers Content) (o : Option Content) (i : Text) (q : ℕ) → read_element cs o i ≡ Ok q → held_element cs o i ≡ Ok q
element_held cs None i q h = no_err h
element_held cs (Some Plain) i q h = no_err h
element_held cs (Some (Array es)) i q h = in_held cs (get es i) q h

slot_held : (cs : Numbers Content) (o : Option Slot) (index : Option Text) (q : ℕ) → read_slot cs o index ≡ Ok q → held_slot cs o index ≡ Ok q
slot_held cs None index q h = no_err h
slot_held cs (Some s) None q h = plain_held fault.NoVariable (get cs s.cell) s.cell q h
slot_held cs (Some s) (Some i) q h = element_held cs (get cs s.cell) i q h

pub read_is_set : (t : Table) (at : Place) (n : Text) (index : Option Text) (c : ℕ) → read t at n index ≡ Ok c → variable t at n index ≡ Ok c
read_is_set t at n index c h = slot_held t.contents (slot_of t.scopes (home t.scopes at) n) index c h

home_unset : (t : Table) (r : Result ℕ VarFault) → (unset_at t r).scopes ≡ t.scopes
home_unset t (Ok c) = refl
home_unset t (Err e) = refl

pub is_gone : (t : Table) (at : Place) (n : Text) (index : Option Text) → IsGone t at n index
is_gone t at n index =
    let r = variable t at n index in
    let gone : (c : ℕ) → variable (unset t at n index) at n index ≢ Ok c = λ c h.
    unset_gone t (slot_of t.scopes (home t.scopes at) n) index r c refl (ap (λ (s : Scoping). held_slot (unset_at t r).contents (slot_of s (home s at) n) index) (sym (home_unset t r)) ∙ h) in
    record { gone = gone; unread = λ c h. gone c (read_is_set (unset t at n index) at n index c h) }

-- Others stay

pub write_others : (t : Table) (at : Place) (n : Text) (index : Option Text) → Sound t → WriteLeavesOthers t at n index
write_others t at n index sound s e h other i out =
    let here = home t.scopes at in
    let w = set_write t here n index s (numbered t sound) (there_at t at sound) e in
    let still : (c : ℕ) → is_among (set_by t here n index s.after) c ≡ false → get t.contents c ≡ None → get s.after.contents c ≡ None = λ c apart none. elim (w.only c none) as (λ _. get s.after.contents c ≡ None) [
      | inl f ↦ f
      | inr p ↦ absurd (true≢false (sym (elim p as (λ _. is_among (set_by t here n index s.after) c ≡ true) [
        | inl q ↦ among_left (vacant t.contents (cell_of s.after here n None)) (vacant t.contents (cell_of s.after here n index)) c (is_vacant t.contents (cell_of s.after here n None) c q none)
        | inr q ↦ among_right (vacant t.contents (cell_of s.after here n None)) (vacant t.contents (cell_of s.after here n index)) c (is_vacant t.contents (cell_of s.after here n index) c q none)
      ]) ∙ apart))
    ] in
    reads_alike t s.after w.grown h other i (λ c at none. still c (out.variable c at) none) (λ c at none. still c (out.element c at) none)

-- the array that a link makes is listed
array_listed : (t : Table) (k : Home) (name : Text) (index : Option Text) (s : Spot) (c : ℕ) → is_some index ≡ true → cell_of s.after k name None ≡ Some c → get t.contents c ≡ None → is_among (array_made t k name index (Ok s)) c ≡ true
array_listed t k name None s c one at none = absurd (true≢false (sym one))
array_listed t k name (Some i) s c one at none = is_vacant t.contents (cell_of s.after k name None) c at none

-- a name that isn't the local one stands for what it stood for
module _ (v : Table) (here : Home) (local : Text) (q : ℕ) (h : Home) (other : Text) (apart : here ≡ h → local ≢ other) where
  other_slot : slot_of (second_name v here local q).scopes h other ≡ slot_of v.scopes h other
  other_slot = elim (slot_with v.scopes here local (record { cell = q; own = false }) h other) as (λ _. slot_of (second_name v here local q).scopes h other ≡ slot_of v.scopes h other) [
    | inl p ↦ absurd (apart p.0 p.1)
    | inr g ↦ g
  ]

  other_cell : (j : Option Text) → cell_of (second_name v here local q) h other j ≡ cell_of v h other j
  other_cell j = ap (λ o. cell_slot v.contents o j) other_slot

module _ (t : Table) (local : Text) (r : Root) (name : Text) (index : Option Text) (k : Home) (u : Table) (sound : Sound t) (l : IsLinked t local r name index k u) where
  pub link_others : LinkLeavesOthers t local k name index u
  link_others h other i differ out =
      let here = home t.scopes place.Frame in
      let found = found_link t local r name index k u l in
      let q = found.spot in
      let m = made t k name index q (numbered t sound) (there_root t r k sound l.root) found.at in
      let cell : (j : Option Text) → cell_of u h other j ≡ cell_of q.after h other j = λ j. ap (λ v. cell_of v h other j) (sym found.after) ∙ other_cell q.after here local q.cell h other differ j in
      let still : (c : ℕ) → is_among (array_made t k name index (locate t k name index)) c ≡ false → get t.contents c ≡ None → get q.after.contents c ≡ None = λ c apart none. elim (m.only c none) as (λ _. get q.after.contents c ≡ None) [
        | inl f ↦ f
        | inr p ↦ absurd (true≢false (sym (ap (λ x. is_among (array_made t k name index x) c) found.at ∙ array_listed t k name index q c p.0 p.1 none) ∙ apart))
      ] in
      ap (λ v. read_there v h other i) (sym found.after) ∙ ap (λ o. read_slot q.after.contents o i) (other_slot q.after here local q.cell h other differ)
      ∙ reads_alike t q.after m.grown h other i (λ c at none. still c (out.variable c (cell None ∙ at)) none) (λ c at none. still c (out.element c (cell i ∙ at)) none)

  pub link_stays : (h : Home) (other : Text) → (home t.scopes place.Frame ≡ h → local ≢ other) → StaysOnCells t u h other
  link_stays h other differ j c at =
      let here = home t.scopes place.Frame in
      let found = found_link t local r name index k u l in
      let q = found.spot in
      let seen = located t k name index q (numbered t sound) (there_root t r k sound l.root) found.at in
      ap (λ v. cell_of v h other j) (sym found.after) ∙ other_cell q.after here local q.cell h other differ j ∙ cell_grows t q.after seen.grows h other j c at

pub write_stays : (t : Table) (at : Place) (n : Text) (index : Option Text) (s : Spot) → Sound t → write t at n index ≡ Ok s → (h : Home) (other : Text) → StaysOnCells t s.after h other
write_stays t at n index s sound e h other = cell_grows t s.after (wrote t (home t.scopes at) n index s (numbered t sound) (there_at t at sound) e).grows h other

unset_by : (t : Table) (r : Result ℕ VarFault) (h : Home) (other : Text) (i : Option Text) → StandsForNone (cleared_by t.contents r) t h other i → ReadsAlike t (unset_at t r) h other i
unset_by t (Err e) h other i out = refl
unset_by t (Ok k) h other i out = slot_stays t.contents (freed t.contents k) (slot_of t.scopes h other) i out.variable out.element

pub unset_others : (t : Table) (at : Place) (n : Text) (index : Option Text) → UnsetLeavesOthers t at n index
unset_others t at n index = unset_by t (variable t at n index)

pub unset_scopes : (t : Table) (at : Place) (n : Text) (index : Option Text) → (unset t at n index).scopes ≡ t.scopes
unset_scopes t at n index = home_unset t (variable t at n index)
