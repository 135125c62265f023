-- Which cell a name and an index stand for, and that a write and a link leave it.
use Rattle.std.proofs.Common.{◌≡◌, ◌≢◌, ℕ, zero, suc, ◌+◌, ◌<◌, ◌≤◌, ◌⊎◌, inl, inr, Bool, true, false, cond, true≢false, List, [], ◌∷◌, length, Option, None, Some, refl, sym, ap, subst, ◌∙◌, arith}
use Rattle.std.specs.Prelude.{Result, Ok, Err, MatchResult, if◌then◌else◌}
use Rattle.std.specs.Ordering.{nat_cmp, eq_by_cmp}
use Rattle.std.specs.Option.{unwrap_or}
use Rattle.std.specs.Cmp.{nat_cmp_total}
use Rattle.std.specs.Cmp.Lexicographic.{nat_list_cmp_total}
use Rattle.std.specs.FinMap.{get, insert, empty, get-insert, get-empty, nat_cmp-IsAntisymmetric, slice_cmp-IsAntisymmetric}
use Rattle.tclv_names.specs.Keyed.{Text, by_text, Named, Numbers}
use Rattle.tclv_vars.specs.declared.parts.Slot.{Slot}
use Rattle.tclv_vars.specs.declared.parts.Frame.{Frame}
use Rattle.tclv_vars.specs.declared.parts.Content.{Content}
use Rattle.tclv_vars.specs.declared.parts.Content.TheVariants.{Plain, Array}
use Rattle.tclv_vars.specs.declared.places.Home.{Home}
use Rattle.tclv_vars.specs.declared.places.Home.TheVariants.{Local, Of}
use Rattle.tclv_vars.specs.declared.faults.VarFault.{VarFault}
use Rattle.tclv_vars.specs.declared.faults.VarFault.TheVariants as fault
use Rattle.tclv_vars.specs.Scoping.{Scoping, names_in, name_frame, with_names, with_name, slot_of}
use Rattle.tclv_vars.specs.Table.{Table, Spot, read_slot, read_in, read_element, plain_at, new_element, there, locate_in, locate_element, locate_slot, locate, set_cell, set_spot, plain, elements_of}
use Rattle.tclv_vars.specs.Laws.{IsThere, cell_slot, cell_of, read_there, write_there}
use Rattle.tclv_vars.proofs.MapLemmas.{number_there, number_other, text_there}
use Rattle.tclv_vars.proofs.ScopeLemmas.{tied, same_some, none_some, name_later, frame_names}
use Rattle.tclv_vars.proofs.NumberLemmas.{Numbered, beyond}

-- Names where others were put

frame_with : (fs : List Frame) (i : ℕ) (ns : Named Slot) (j : ℕ) → ((i ≡ j) × (frame_names (name_frame fs i ns) j ≡ ns)) ⊎ (frame_names (name_frame fs i ns) j ≡ frame_names fs j)
frame_with [] i ns j = inr refl
frame_with (f ∷ fs) zero ns zero = inl (refl, refl)
frame_with (f ∷ fs) zero ns (suc j) = inr refl
frame_with (f ∷ fs) (suc i) ns zero = inr (ap (λ gs. frame_names gs 0) (name_later f fs i ns))
frame_with (f ∷ fs) (suc i) ns (suc j) = elim (frame_with fs i ns j) as (λ _. ((suc i ≡ suc j) × (frame_names (name_frame (f ∷ fs) (suc i) ns) (suc j) ≡ ns)) ⊎ (frame_names (name_frame (f ∷ fs) (suc i) ns) (suc j) ≡ frame_names fs j)) [
  | inl p ↦ inl (ap suc p.0, ap (λ gs. frame_names gs (suc j)) (name_later f fs i ns) ∙ p.1)
  | inr g ↦ inr (ap (λ gs. frame_names gs (suc j)) (name_later f fs i ns) ∙ g)
]

frame_here : (fs : List Frame) (i : ℕ) (ns : Named Slot) → i < length fs → frame_names (name_frame fs i ns) i ≡ ns
frame_here [] i ns h = absurd (omega (arith, h))
frame_here (f ∷ fs) zero ns h = refl
frame_here (f ∷ fs) (suc i) ns h = ap (λ gs. frame_names gs (suc i)) (name_later f fs i ns) ∙ frame_here fs i ns (omega (arith, h))

names_here : (s : Scoping) (h : Home) (ns : Named Slot) → IsThere s h → names_in (with_names s h ns) h ≡ ns
names_here s (Local i) ns there = frame_here s.frames i ns there
names_here s (Of n) ns there = ap (λ (o : Option (Named Slot)). unwrap_or o empty) (number_there s.spaces n ns)

names_with : (s : Scoping) (h : Home) (ns : Named Slot) (k : Home) → ((h ≡ k) × (names_in (with_names s h ns) k ≡ ns)) ⊎ (names_in (with_names s h ns) k ≡ names_in s k)
names_with s (Local i) ns (Of b) = inr refl
names_with s (Of a) ns (Local j) = inr refl
names_with s (Local i) ns (Local j) = elim (frame_with s.frames i ns j) as (λ _. ((Local i ≡ Local j) × (names_in (with_names s (Local i) ns) (Local j) ≡ ns)) ⊎ (names_in (with_names s (Local i) ns) (Local j) ≡ names_in s (Local j))) [
  | inl p ↦ inl (ap Local p.0, p.1)
  | inr g ↦ inr g
]
names_with s (Of a) ns (Of b) = elim (eq_by_cmp nat_cmp b a) as (λ t. eq_by_cmp nat_cmp b a ≡ t → ((Of a ≡ Of b) × (names_in (with_names s (Of a) ns) (Of b) ≡ ns)) ⊎ (names_in (with_names s (Of a) ns) (Of b) ≡ names_in s (Of b))) [
  | true ↦ λ e. inl (ap Of (sym (nat_cmp-IsAntisymmetric b a (tied (nat_cmp b a) e))), ap (λ (o : Option (Named Slot)). unwrap_or o empty) (get-insert nat_cmp_total s.spaces a ns b ∙ ap (λ t. cond t (Some ns) (get s.spaces b)) e))
  | false ↦ λ e. inr (ap (λ (o : Option (Named Slot)). unwrap_or o empty) (get-insert nat_cmp_total s.spaces a ns b ∙ ap (λ t. cond t (Some ns) (get s.spaces b)) e))
] refl

pub slot_here : (s : Scoping) (h : Home) (n : Text) (x : Slot) → IsThere s h → slot_of (with_name s h n x) h n ≡ Some x
slot_here s h n x there = ap (λ ns. get ns n) (names_here s h (insert (names_in s h) n x) there) ∙ text_there (names_in s h) n x

-- a name stands for what it stood for, unless it is the one that was put
pub slot_with : (s : Scoping) (h : Home) (n : Text) (x : Slot) (k : Home) (m : Text) → ((h ≡ k) × (n ≡ m)) ⊎ (slot_of (with_name s h n x) k m ≡ slot_of s k m)
slot_with s h n x k m = elim (names_with s h (insert (names_in s h) n x) k) as (λ _. ((h ≡ k) × (n ≡ m)) ⊎ (slot_of (with_name s h n x) k m ≡ slot_of s k m)) [
  | inl p ↦ elim (eq_by_cmp by_text m n) as (λ b. eq_by_cmp by_text m n ≡ b → ((h ≡ k) × (n ≡ m)) ⊎ (slot_of (with_name s h n x) k m ≡ slot_of s k m)) [
    | true ↦ λ e. inl (p.0, sym (slice_cmp-IsAntisymmetric nat_cmp-IsAntisymmetric m n (tied (by_text m n) e)))
    | false ↦ λ e. inr (ap (λ ns. get ns m) p.1 ∙ get-insert nat_list_cmp_total (names_in s h) n x m ∙ ap (λ b. cond b (Some x) (get (names_in s h) m)) e ∙ ap (λ z. slot_of s z m) p.0)
  ] refl
  | inr g ↦ inr (ap (λ ns. get ns m) g)
]

-- Each name stands for what it stood for, each index too, and each value is still one.
pub record Grows (t u : Table) : Type 0 where
  pub slots : (k : Home) (m : Text) (x : Slot) → slot_of t.scopes k m ≡ Some x → slot_of u.scopes k m ≡ Some x
  pub elements : (a : ℕ) (i : Text) (q : ℕ) → get (elements_of (get t.contents a)) i ≡ Some q → get (elements_of (get u.contents a)) i ≡ Some q
  pub values : (q : ℕ) → get t.contents q ≡ Some Plain → get u.contents q ≡ Some Plain

cell_by_slot : (cs ds : Numbers Content) (o p : Option Slot) (j : Option Text) (q : ℕ) → ((x : Slot) → o ≡ Some x → p ≡ Some x) → ((a : ℕ) (i : Text) (q : ℕ) → get (elements_of (get cs a)) i ≡ Some q → get (elements_of (get ds a)) i ≡ Some q)
    → cell_slot cs o j ≡ Some q → cell_slot ds p j ≡ Some q
cell_by_slot cs ds None p j q f g h = none_some h
cell_by_slot cs ds (Some x) p None q f g h = ap (λ o. cell_slot ds o None) (f x refl) ∙ h
cell_by_slot cs ds (Some x) p (Some i) q f g h = ap (λ o. cell_slot ds o (Some i)) (f x refl) ∙ g x.cell i q h

pub cell_grows : (t u : Table) → Grows t u → (k : Home) (m : Text) (j : Option Text) (q : ℕ) → cell_of t k m j ≡ Some q → cell_of u k m j ≡ Some q
cell_grows t u g k m j q h = cell_by_slot t.contents u.contents (slot_of t.scopes k m) (slot_of u.scopes k m) j q (g.slots k m) g.elements h

itself : (t : Table) → Grows t t
itself t = record { slots = λ k m x h. h; elements = λ a i q h. h; values = λ q h. h }

further : (t u v : Table) → Grows t u → Grows u v → Grows t v
further t u v a b = record { slots = λ k m x h. b.slots k m x (a.slots k m x h); elements = λ c i q h. b.elements c i q (a.elements c i q h); values = λ q h. b.values q (a.values q h) }

-- a cell that was no value, and has these elements, gets one more
module _ (cs : Numbers Content) (c : ℕ) (es : Named ℕ) (i : Text) (x : ℕ) (was : elements_of (get cs c) ≡ es) (new : get es i ≡ None) where
  more_elements : (a : ℕ) (j : Text) (q : ℕ) → get (elements_of (get cs a)) j ≡ Some q → get (elements_of (get (insert cs c (Array (insert es i x))) a)) j ≡ Some q
  more_elements a j q h = ap (λ o. get (elements_of o) j) (get-insert nat_cmp_total cs c (Array (insert es i x)) a) ∙ elim (eq_by_cmp nat_cmp a c) as (λ b. eq_by_cmp nat_cmp a c ≡ b → get (elements_of (cond b (Some (Array (insert es i x))) (get cs a))) j ≡ Some q) [
    | true ↦ λ e. let there : get es j ≡ Some q = ap (λ fs. get fs j) (sym (ap (λ k. elements_of (get cs k)) (nat_cmp-IsAntisymmetric a c (tied (nat_cmp a c) e)) ∙ was)) ∙ h in
        get-insert nat_list_cmp_total es i x j ∙ elim (eq_by_cmp by_text j i) as (λ b. eq_by_cmp by_text j i ≡ b → cond b (Some x) (get es j) ≡ Some q) [
          | true ↦ λ f. none_some (sym new ∙ ap (get es) (sym (slice_cmp-IsAntisymmetric nat_cmp-IsAntisymmetric j i (tied (by_text j i) f))) ∙ there)
          | false ↦ λ f. there
        ] refl
    | false ↦ λ e. h
  ] refl

  more_values : get cs c ≢ Some Plain → (q : ℕ) → get cs q ≡ Some Plain → get (insert cs c (Array (insert es i x))) q ≡ Some Plain
  more_values apart q h = number_other cs c (Array (insert es i x)) q (λ e. apart (ap (get cs) (sym e) ∙ h)) ∙ h

-- a cell that held nothing gets a value
pub value_put : (u : Table) (c : ℕ) → get u.contents c ≡ None → Grows u (plain u c)
value_put u c none = record {
  slots = λ k m x h. h;
  elements = λ a i q h. ap (λ o. get (elements_of o) i) (number_other u.contents c Plain a (λ e. none_some (sym (get-empty by_text i) ∙ ap (λ o. get (elements_of o) i) (sym (ap (get u.contents) e ∙ none)) ∙ h))) ∙ h;
  values = λ q h. number_other u.contents c Plain q (λ e. none_some (sym none ∙ ap (get u.contents) (sym e) ∙ h)) ∙ h;
}

-- Finding a cell

-- The name stands for the spot's cell, which holds nothing where it is fresh. What stood for a cell still does, and where nothing was made all is as before.
pub record Located (t : Table) (h : Home) (n : Text) (index : Option Text) (s : Spot) : Type 0 where
  pub grows : Grows t s.after
  pub cell : cell_of s.after h n index ≡ Some s.cell
  pub empty_cell : s.fresh ≡ true → get s.after.contents s.cell ≡ None
  pub same : s.fresh ≡ false → s.after ≡ t

abbrev Finds : Table → Home → Text → Option Text → Result Spot VarFault → Type 0
Finds t h n index r = MatchResult r (λ s. Located t h n index s) (λ e. Unit {0})

stay : (t : Table) (h : Home) (n : Text) (index : Option Text) (c : ℕ) → cell_of t h n index ≡ Some c → Finds t h n index (there t c)
stay t h n index c at = record { grows = itself t; cell = at; empty_cell = λ e. absurd (true≢false (sym e)); same = λ _. refl }

array_not_plain : (es : Named ℕ) → Some (Array es) ≢ Some Plain
array_not_plain es e = true≢false (ap is_array e)
  where
    is_array : Option Content → Bool
    is_array None = false
    is_array (Some Plain) = false
    is_array (Some (Array fs)) = true

module _ (t : Table) (sound : Numbered t) (h : Home) (n : Text) where
  new_slots : (x : Slot) → slot_of t.scopes h n ≡ None → (k : Home) (m : Text) (o : Slot) → slot_of t.scopes k m ≡ Some o → slot_of (with_name t.scopes h n x) k m ≡ Some o
  new_slots x none k m o at = elim (slot_with t.scopes h n x k m) as (λ _. slot_of (with_name t.scopes h n x) k m ≡ Some o) [
    | inl p ↦ none_some (sym none ∙ ap (λ z. slot_of t.scopes z n) p.0 ∙ ap (slot_of t.scopes k) p.1 ∙ at)
    | inr g ↦ g ∙ at
  ]

  no_content : (c : ℕ) → t.next ≤ c → get t.contents c ≡ None
  no_content c b = beyond t c sound b

  module _ (here : IsThere t.scopes h) (none : slot_of t.scopes h n ≡ None) where
    finds_new : (index : Option Text) → Finds t h n index (locate_slot t h n None index)
    finds_new None = record {
      grows = record { slots = new_slots (record { cell = t.next; own = true }) none; elements = λ a i q e. e; values = λ q e. e };
      cell = ap (λ o. cell_slot t.contents o None) (slot_here t.scopes h n (record { cell = t.next; own = true }) here);
      empty_cell = λ _. no_content t.next (omega arith);
      same = λ e. absurd (true≢false e);
    }
    finds_new (Some i) =
        let cs = insert t.contents t.next (Array (insert empty i (t.next + 1))) in
        let was : elements_of (get t.contents t.next) ≡ empty = ap elements_of (no_content t.next (omega arith)) in
        record {
          grows = record {
            slots = new_slots (record { cell = t.next; own = true }) none;
            elements = more_elements t.contents t.next empty i (t.next + 1) was (get-empty by_text i);
            values = more_values t.contents t.next empty i (t.next + 1) was (get-empty by_text i) (λ e. none_some (sym (no_content t.next (omega arith)) ∙ e));
          };
          cell = ap (λ o. cell_slot cs o (Some i)) (slot_here t.scopes h n (record { cell = t.next; own = true }) here) ∙ ap (λ o. get (elements_of o) i) (number_there t.contents t.next (Array (insert empty i (t.next + 1)))) ∙ text_there empty i (t.next + 1);
          empty_cell = λ _. number_other t.contents t.next (Array (insert empty i (t.next + 1))) (t.next + 1) (λ e. omega (arith, e)) ∙ no_content (t.next + 1) (omega arith);
          same = λ e. absurd (true≢false e);
        }

  module _ (s : Slot) (at : slot_of t.scopes h n ≡ Some s) (i : Text) where
    finds_more : (es : Named ℕ) → elements_of (get t.contents s.cell) ≡ es → get es i ≡ None → get t.contents s.cell ≢ Some Plain → Finds t h n (Some i) (Ok (new_element t s.cell es i))
    finds_more es was new apart =
        let cs = insert t.contents s.cell (Array (insert es i t.next)) in
        let below = sound.named h n s at in
        record {
          grows = record { slots = λ k m x e. e; elements = more_elements t.contents s.cell es i t.next was new; values = more_values t.contents s.cell es i t.next was new apart };
          cell = ap (λ o. cell_slot cs o (Some i)) at ∙ ap (λ o. get (elements_of o) i) (number_there t.contents s.cell (Array (insert es i t.next))) ∙ text_there es i t.next;
          empty_cell = λ _. number_other t.contents s.cell (Array (insert es i t.next)) t.next (λ e. omega (arith, e, below)) ∙ no_content t.next (omega arith);
          same = λ e. absurd (true≢false e);
        }

    finds_in : (es : Named ℕ) → get t.contents s.cell ≡ Some (Array es) → (o : Option ℕ) → get es i ≡ o → Finds t h n (Some i) (locate_in t s.cell es i o)
    finds_in es e None f = finds_more es (ap elements_of e) f (λ p. array_not_plain es (sym e ∙ p))
    finds_in es e (Some x) f = stay t h n (Some i) x (ap (λ o. cell_slot t.contents o (Some i)) at ∙ ap (λ o. get (elements_of o) i) e ∙ f)

    finds_of : (o : Option Content) → get t.contents s.cell ≡ o → Finds t h n (Some i) (locate_element t s.cell o i)
    finds_of None e = finds_more empty (ap elements_of e) (get-empty by_text i) (λ p. none_some (sym e ∙ p))
    finds_of (Some Plain) e = tt
    finds_of (Some (Array es)) e = finds_in es e (get es i) refl

  finds_slot : IsThere t.scopes h → (o : Option Slot) → slot_of t.scopes h n ≡ o → (index : Option Text) → Finds t h n index (locate_slot t h n o index)
  finds_slot here None e index = finds_new here e index
  finds_slot here (Some s) e None = stay t h n None s.cell (ap (λ o. cell_slot t.contents o None) e)
  finds_slot here (Some s) e (Some i) = finds_of s e i (get t.contents s.cell) refl

pub located : (t : Table) (h : Home) (n : Text) (index : Option Text) (s : Spot) → Numbered t → IsThere t.scopes h → locate t h n index ≡ Ok s → Located t h n index s
located t h n index s sound here e = subst (Finds t h n index) e (finds_slot t sound h n here (slot_of t.scopes h n) refl index)

-- Writing

-- The name stands for the spot's cell, which holds a value. What stood for a cell still does.
pub record Wrote (t : Table) (h : Home) (n : Text) (index : Option Text) (s : Spot) : Type 0 where
  pub grows : Grows t s.after
  pub cell : cell_of s.after h n index ≡ Some s.cell
  pub value : get s.after.contents s.cell ≡ Some Plain

abbrev Writes : Table → Home → Text → Option Text → Result Spot VarFault → Type 0
Writes t h n index r = MatchResult r (λ s. Wrote t h n index s) (λ e. Unit {0})

put_value : (t u : Table) (h : Home) (n : Text) (index : Option Text) (c : ℕ) (b : Bool) → Grows t u → cell_of u h n index ≡ Some c → get u.contents c ≡ None → Wrote t h n index (record { cell = c; fresh = b; after = plain u c })
put_value t u h n index c b g at none = record {
  grows = further t u (plain u c) g (value_put u c none);
  cell = cell_grows u (plain u c) (value_put u c none) h n index c at;
  value = number_there u.contents c Plain;
}

writes_cell : (t : Table) (h : Home) (n : Text) (index : Option Text) (c : ℕ) (o : Option Content) → get t.contents c ≡ o → cell_of t h n index ≡ Some c → Writes t h n index (set_cell t c o)
writes_cell t h n index c None e at = put_value t t h n index c true (itself t) at e
writes_cell t h n index c (Some Plain) e at = record { grows = itself t; cell = at; value = e }
writes_cell t h n index c (Some (Array es)) e at = tt

writes_spot : (t : Table) (h : Home) (n : Text) (index : Option Text) (r : Result Spot VarFault) → Finds t h n index r → Writes t h n index (set_spot t r)
writes_spot t h n index (Err e) f = tt
writes_spot t h n index (Ok s) f = elim (s.fresh) as (λ b. s.fresh ≡ b → Writes t h n index (if b then Ok (record { cell = s.cell; fresh = b; after = plain s.after s.cell }) else set_cell t s.cell (get t.contents s.cell))) [
  | true ↦ λ e. put_value t s.after h n index s.cell true f.grows f.cell (f.empty_cell e)
  | false ↦ λ e. writes_cell t h n index s.cell (get t.contents s.cell) refl (ap (λ u. cell_of u h n index) (sym (f.same e)) ∙ f.cell)
] refl

pub wrote : (t : Table) (h : Home) (n : Text) (index : Option Text) (s : Spot) → Numbered t → IsThere t.scopes h → write_there t h n index ≡ Ok s → Wrote t h n index s
wrote t h n index s sound here e = subst (Writes t h n index) e (writes_spot t h n index (locate t h n index) (finds_slot t sound h n here (slot_of t.scopes h n) refl index))

-- Reading

abbrev ok_or : {A E : Type 0} → A → Result A E → A
ok_or x (Ok a) = a
ok_or x (Err e) = x

pub same_ok : {A E : Type 0} (x y : A) → ◌≡◌ {A = Result A E} (Ok x) (Ok y) → x ≡ y
same_ok x y e = ap (ok_or x) e

abbrev answers : {A E : Type 0} → Result A E → Bool
answers (Ok a) = true
answers (Err e) = false

pub no_err : {A E P : Type 0} {e : E} {x : A} → Err e ≡ Ok x → P
no_err h = absurd (true≢false (sym (ap answers h)))

plain_ok : (missing : VarFault) (cs : Numbers Content) (c d : ℕ) → d ≡ c → get cs c ≡ Some Plain → plain_at missing (get cs d) d ≡ Ok c
plain_ok missing cs c d e p = ap (λ k. plain_at missing (get cs k) k) e ∙ ap (λ o. plain_at missing o c) p

read_by : (cs : Numbers Content) (o : Option Content) (i : Text) (c : ℕ) → get (elements_of o) i ≡ Some c → get cs c ≡ Some Plain → read_element cs o i ≡ Ok c
read_by cs None i c h p = none_some (sym (get-empty by_text i) ∙ h)
read_by cs (Some Plain) i c h p = none_some (sym (get-empty by_text i) ∙ h)
read_by cs (Some (Array es)) i c h p = ap (read_in cs) h ∙ plain_ok fault.NoElement cs c c refl p

read_cell_of : (cs : Numbers Content) (o : Option Slot) (index : Option Text) (c : ℕ) → cell_slot cs o index ≡ Some c → get cs c ≡ Some Plain → read_slot cs o index ≡ Ok c
read_cell_of cs None index c h p = none_some h
read_cell_of cs (Some s) None c h p = plain_ok fault.NoVariable cs c s.cell (same_some s.cell c h) p
read_cell_of cs (Some s) (Some i) c h p = read_by cs (get cs s.cell) i c h p

-- a name whose cell has a value is read
pub read_cell : (t : Table) (h : Home) (n : Text) (index : Option Text) (c : ℕ) → cell_of t h n index ≡ Some c → get t.contents c ≡ Some Plain → read_there t h n index ≡ Ok c
read_cell t h n index c = read_cell_of t.contents (slot_of t.scopes h n) index c

-- Two names of one cell: what is written through the one is read through the other.
pub one_cell : (u : Table) (h k : Home) (n m : Text) (i j : Option Text) (c : ℕ) → Numbered u → IsThere u.scopes h → cell_of u h n i ≡ Some c → cell_of u k m j ≡ Some c → (s : Spot) → write_there u h n i ≡ Ok s → read_there s.after k m j ≡ Ok s.cell
one_cell u h k n m i j c sound here a b s e =
    let w = wrote u h n i s sound here e in
    let same : s.cell ≡ c = same_some s.cell c (sym w.cell ∙ cell_grows u s.after w.grows h n i c a) in
    read_cell s.after k m j s.cell (cell_grows u s.after w.grows k m j c b ∙ ap (λ q. Some q) (sym same)) w.value
