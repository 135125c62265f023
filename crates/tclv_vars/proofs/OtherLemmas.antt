-- What a name reads as where tables grow: the same, unless one of its cells is newly set.
use Rattle.std.proofs.Common.{◌≡◌, ℕ, ◌+◌, ◌⊎◌, inl, inr, Bool, true, false, cond, not, ◌||◌, ◌&&◌, is_some, nat_eq, true≢false, List, [], ◌∷◌, ◌++◌, Option, None, Some, refl, sym, ap, subst, ◌∙◌, arith}
use Rattle.std.specs.Prelude.{Result, Ok, Err, MatchResult, if◌then◌else◌}
use Rattle.std.specs.Ordering.{nat_cmp, eq_by_cmp}
use Rattle.std.specs.Cmp.{nat_cmp_total, unsigned_ties, eq_by_cmp_equiv}
use Rattle.std.specs.Cmp.Lexicographic.{nat_list_cmp_total}
use Rattle.std.specs.List.{filter}
use Rattle.std.specs.FinMap.{get, insert, empty, get-insert, get-empty, nat_cmp-IsAntisymmetric, slice_cmp-IsAntisymmetric}
use Rattle.std.proofs.lemmas.Map.Views.{any-filter_same}
use Rattle.tclv_names.specs.Keyed.{Text, by_text, Named, Numbers}
use Rattle.tclv_vars.specs.declared.parts.Slot.{Slot}
use Rattle.tclv_vars.specs.declared.parts.Content.{Content}
use Rattle.tclv_vars.specs.declared.parts.Content.TheVariants.{Plain, Array}
use Rattle.tclv_vars.specs.declared.places.Home.{Home}
use Rattle.tclv_vars.specs.declared.faults.VarFault.{VarFault}
use Rattle.tclv_vars.specs.declared.faults.VarFault.TheVariants as fault
use Rattle.tclv_vars.specs.Scoping.{slot_of, with_name}
use Rattle.tclv_vars.specs.Table.{Table, Spot, read_slot, read_in, read_element, plain_at, new_element, there, locate_in, locate_element, locate_slot, locate, set_cell, set_spot, plain, elements_of}
use Rattle.tclv_vars.specs.Clearing.{without, is_among}
use Rattle.tclv_vars.specs.Laws.{IsThere, cell_slot, cell_of, read_there, write_there, ReadsAlike, vacant}
use Rattle.tclv_vars.proofs.ScopeLemmas.{tied, none_some}
use Rattle.tclv_vars.proofs.NumberLemmas.{Numbered, beyond}
use Rattle.tclv_vars.proofs.ClearLemmas.{get-without}
use Rattle.tclv_vars.proofs.CellLemmas.{slot_here, slot_with, located, cell_grows, value_put, no_err, Located}

-- Maps where one entry was put

put_number : {X : Type 0} (m : Numbers X) (c : ℕ) (x : X) (a : ℕ) → ((a ≡ c) × (get (insert m c x) a ≡ Some x)) ⊎ (get (insert m c x) a ≡ get m a)
put_number m c x a = elim (eq_by_cmp nat_cmp a c) as (λ b. eq_by_cmp nat_cmp a c ≡ b → ((a ≡ c) × (get (insert m c x) a ≡ Some x)) ⊎ (get (insert m c x) a ≡ get m a)) [
  | true ↦ λ e. inl (nat_cmp-IsAntisymmetric a c (tied (nat_cmp a c) e), get-insert nat_cmp_total m c x a ∙ ap (λ b. cond b (Some x) (get m a)) e)
  | false ↦ λ e. inr (get-insert nat_cmp_total m c x a ∙ ap (λ b. cond b (Some x) (get m a)) e)
] refl

put_text : {X : Type 0} (m : Named X) (i : Text) (x : X) (j : Text) → ((j ≡ i) × (get (insert m i x) j ≡ Some x)) ⊎ (get (insert m i x) j ≡ get m j)
put_text m i x j = elim (eq_by_cmp by_text j i) as (λ b. eq_by_cmp by_text j i ≡ b → ((j ≡ i) × (get (insert m i x) j ≡ Some x)) ⊎ (get (insert m i x) j ≡ get m j)) [
  | true ↦ λ e. inl (slice_cmp-IsAntisymmetric nat_cmp-IsAntisymmetric j i (tied (by_text j i) e), get-insert nat_list_cmp_total m i x j ∙ ap (λ b. cond b (Some x) (get m j)) e)
  | false ↦ λ e. inr (get-insert nat_list_cmp_total m i x j ∙ ap (λ b. cond b (Some x) (get m j)) e)
] refl

-- What a cell holds: nothing, a value or an array

abbrev kind : Option Content → ℕ
kind None = 0
kind (Some Plain) = 1
kind (Some (Array es)) = 2

nothing_kind : (o : Option Content) → kind o ≡ 0 → o ≡ None
nothing_kind None e = refl
nothing_kind (Some Plain) e = absurd (omega (arith, e))
nothing_kind (Some (Array es)) e = absurd (omega (arith, e))

plain_kind : (missing : VarFault) (a b : Option Content) (c : ℕ) → kind a ≡ kind b → plain_at missing a c ≡ plain_at missing b c
plain_kind missing None None c e = refl
plain_kind missing None (Some Plain) c e = absurd (omega (arith, e))
plain_kind missing None (Some (Array fs)) c e = absurd (omega (arith, e))
plain_kind missing (Some Plain) None c e = absurd (omega (arith, e))
plain_kind missing (Some Plain) (Some Plain) c e = refl
plain_kind missing (Some Plain) (Some (Array fs)) c e = absurd (omega (arith, e))
plain_kind missing (Some (Array es)) None c e = absurd (omega (arith, e))
plain_kind missing (Some (Array es)) (Some Plain) c e = absurd (omega (arith, e))
plain_kind missing (Some (Array es)) (Some (Array fs)) c e = refl

-- Cells that grow

-- an index that was not there stands for a cell that held nothing
record NewElement (cs ds : Numbers Content) (a : ℕ) (i : Text) : Type 0 where
  was : get (elements_of (get cs a)) i ≡ None
  cell : ℕ
  now : get (elements_of (get ds a)) i ≡ Some cell
  nothing : get cs cell ≡ None

-- a cell that held something holds a thing of its kind, and an index stands for what it stood for, or is new
record GrownCells (cs ds : Numbers Content) : Type 0 where
  kinds : (c : ℕ) → (kind (get ds c) ≡ kind (get cs c)) ⊎ (get cs c ≡ None)
  elements : (a : ℕ) (i : Text) → (get (elements_of (get ds a)) i ≡ get (elements_of (get cs a)) i) ⊎ NewElement cs ds a i

same_cells : (cs : Numbers Content) → GrownCells cs cs
same_cells cs = record { kinds = λ c. inl refl; elements = λ a i. inl refl }

further : (cs ds es : Numbers Content) → GrownCells cs ds → GrownCells ds es → GrownCells cs es
further cs ds es a b =
    let back : (c : ℕ) → get ds c ≡ None → get cs c ≡ None = λ c none. elim (a.kinds c) as (λ _. get cs c ≡ None) [ inl e ↦ nothing_kind (get cs c) (sym e ∙ ap kind none) | inr e ↦ e ] in
    record {
      kinds = λ c. elim (a.kinds c) as (λ _. (kind (get es c) ≡ kind (get cs c)) ⊎ (get cs c ≡ None)) [
        | inr none ↦ inr none
        | inl e ↦ elim (b.kinds c) as (λ _. (kind (get es c) ≡ kind (get cs c)) ⊎ (get cs c ≡ None)) [ inl f ↦ inl (f ∙ e) | inr none ↦ inr (back c none) ]
      ];
      elements = λ x i. elim (b.elements x i) as (λ _. (get (elements_of (get es x)) i ≡ get (elements_of (get cs x)) i) ⊎ NewElement cs es x i) [
        | inl f ↦ elim (a.elements x i) as (λ _. (get (elements_of (get es x)) i ≡ get (elements_of (get cs x)) i) ⊎ NewElement cs es x i) [
          | inl e ↦ inl (f ∙ e)
          | inr new ↦ inr (record { was = new.was; cell = new.cell; now = f ∙ new.now; nothing = new.nothing })
        ]
        | inr new ↦ elim (a.elements x i) as (λ _. (get (elements_of (get es x)) i ≡ get (elements_of (get cs x)) i) ⊎ NewElement cs es x i) [
          | inl e ↦ inr (record { was = sym e ∙ new.was; cell = new.cell; now = new.now; nothing = back new.cell new.nothing })
          | inr old ↦ none_some (sym new.was ∙ old.now)
        ]
      ];
    }

-- a cell that is no value has one more element, whose cell held nothing
grown_array : (cs : Numbers Content) (c : ℕ) (es : Named ℕ) (i : Text) (x : ℕ) → (get cs c ≡ None) ⊎ (get cs c ≡ Some (Array es)) → elements_of (get cs c) ≡ es → get es i ≡ None → get cs x ≡ None
    → GrownCells cs (insert cs c (Array (insert es i x)))
grown_array cs c es i x held was new nothing =
    let ds : Numbers Content = insert cs c (Array (insert es i x)) in
    record {
      kinds = λ a. elim (put_number cs c (Array (insert es i x)) a) as (λ _. (kind (get ds a) ≡ kind (get cs a)) ⊎ (get cs a ≡ None)) [
        | inr g ↦ inl (ap kind g)
        | inl p ↦ elim held as (λ _. (kind (get ds a) ≡ kind (get cs a)) ⊎ (get cs a ≡ None)) [
          | inl none ↦ inr (ap (get cs) p.0 ∙ none)
          | inr e ↦ inl (ap kind p.1 ∙ sym (ap kind (ap (get cs) p.0 ∙ e)))
        ]
      ];
      elements = λ a j. elim (put_number cs c (Array (insert es i x)) a) as (λ _. (get (elements_of (get ds a)) j ≡ get (elements_of (get cs a)) j) ⊎ NewElement cs ds a j) [
        | inr g ↦ inl (ap (λ o. get (elements_of o) j) g)
        | inl p ↦
            let now : get (elements_of (get ds a)) j ≡ get (insert es i x) j = ap (λ o. get (elements_of o) j) p.1 in
            let before : get (elements_of (get cs a)) j ≡ get es j = ap (λ k. get (elements_of (get cs k)) j) p.0 ∙ ap (λ fs. get fs j) was in
            elim (put_text es i x j) as (λ _. (get (elements_of (get ds a)) j ≡ get (elements_of (get cs a)) j) ⊎ NewElement cs ds a j) [
              | inl q ↦ inr (record { was = before ∙ ap (get es) q.0 ∙ new; cell = x; now = now ∙ q.1; nothing = nothing })
              | inr g ↦ inl (now ∙ g ∙ sym before)
            ]
      ];
    }

-- a cell that held nothing has a value
grown_value : (cs : Numbers Content) (c : ℕ) → get cs c ≡ None → GrownCells cs (insert cs c Plain)
grown_value cs c none = record {
  kinds = λ a. elim (put_number cs c Plain a) as (λ _. (kind (get (insert cs c Plain) a) ≡ kind (get cs a)) ⊎ (get cs a ≡ None)) [
    | inl p ↦ inr (ap (get cs) p.0 ∙ none)
    | inr g ↦ inl (ap kind g)
  ];
  elements = λ a i. elim (put_number cs c Plain a) as (λ _. (get (elements_of (get (insert cs c Plain) a)) i ≡ get (elements_of (get cs a)) i) ⊎ NewElement cs (insert cs c Plain) a i) [
    | inl p ↦ inl (ap (λ o. get (elements_of o) i) p.1 ∙ sym (ap (λ o. get (elements_of o) i) (ap (get cs) p.0 ∙ none)))
    | inr g ↦ inl (ap (λ o. get (elements_of o) i) g)
  ];
}

-- Reading, where no cell that is looked at is newly set

abbrev pub Still : Numbers Content → Numbers Content → ℕ → Type 0
Still cs ds c = get cs c ≡ None → get ds c ≡ None

module _ (cs ds : Numbers Content) (grown : GrownCells cs ds) where
  same_kind : (c : ℕ) → Still cs ds c → kind (get ds c) ≡ kind (get cs c)
  same_kind c still = elim (grown.kinds c) as (λ _. kind (get ds c) ≡ kind (get cs c)) [ inl e ↦ e | inr none ↦ ap kind (still none ∙ sym none) ]

  index_alike : (o : Option ℕ) → ((c : ℕ) → o ≡ Some c → Still cs ds c) → read_in ds o ≡ read_in cs o
  index_alike None still = refl
  index_alike (Some e) still = plain_kind fault.NoElement (get ds e) (get cs e) e (same_kind e (still e refl))

  element_alike : (a : ℕ) (i : Text) (p q : Option Content) → get cs a ≡ p → get ds a ≡ q → kind q ≡ kind p → ((c : ℕ) → get (elements_of q) i ≡ Some c → Still cs ds c) → read_element ds q i ≡ read_element cs p i
  element_alike a i None None e f k still = refl
  element_alike a i None (Some Plain) e f k still = absurd (omega (arith, k))
  element_alike a i None (Some (Array fs)) e f k still = absurd (omega (arith, k))
  element_alike a i (Some Plain) None e f k still = absurd (omega (arith, k))
  element_alike a i (Some Plain) (Some Plain) e f k still = refl
  element_alike a i (Some Plain) (Some (Array fs)) e f k still = absurd (omega (arith, k))
  element_alike a i (Some (Array es)) None e f k still = absurd (omega (arith, k))
  element_alike a i (Some (Array es)) (Some Plain) e f k still = absurd (omega (arith, k))
  element_alike a i (Some (Array es)) (Some (Array fs)) e f k still =
      let before : get (elements_of (get cs a)) i ≡ get es i = ap (λ o. get (elements_of o) i) e in
      let now : get (elements_of (get ds a)) i ≡ get fs i = ap (λ o. get (elements_of o) i) f in
      elim (grown.elements a i) as (λ _. read_in ds (get fs i) ≡ read_in cs (get es i)) [
        | inl g ↦ index_alike (get fs i) still ∙ ap (read_in cs) (sym now ∙ g ∙ before)
        | inr new ↦
            let at : get fs i ≡ Some new.cell = sym now ∙ new.now in
            ap (read_in ds) at ∙ ap (λ o. plain_at fault.NoElement o new.cell) (still new.cell at new.nothing) ∙ sym (ap (read_in cs) (sym before ∙ new.was))
      ]

  slot_alike : (o : Option Slot) (j : Option Text) → ((c : ℕ) → cell_slot ds o None ≡ Some c → Still cs ds c) → ((c : ℕ) → cell_slot ds o j ≡ Some c → Still cs ds c) → read_slot ds o j ≡ read_slot cs o j
  slot_alike None j whole part = refl
  slot_alike (Some s) None whole part = plain_kind fault.NoVariable (get ds s.cell) (get cs s.cell) s.cell (same_kind s.cell (whole s.cell refl))
  slot_alike (Some s) (Some i) whole part = element_alike s.cell i (get cs s.cell) (get ds s.cell) refl refl (same_kind s.cell (whole s.cell refl)) part

-- a name whose cell holds nothing is no variable
bare_slot : (cs : Numbers Content) (s : Slot) (j : Option Text) → get cs s.cell ≡ None → read_slot cs (Some s) j ≡ Err fault.NoVariable
bare_slot cs s None none = ap (λ o. plain_at fault.NoVariable o s.cell) none
bare_slot cs s (Some i) none = ap (λ o. read_element cs o i) none

-- a name that was not there stands for a cell that held nothing
record NewName (t u : Table) (k : Home) (m : Text) : Type 0 where
  was : slot_of t.scopes k m ≡ None
  slot : Slot
  now : slot_of u.scopes k m ≡ Some slot
  nothing : get t.contents slot.cell ≡ None

pub record Grown (t u : Table) : Type 0 where
  slots : (k : Home) (m : Text) → (slot_of u.scopes k m ≡ slot_of t.scopes k m) ⊎ NewName t u k m
  cells : GrownCells t.contents u.contents

pub reads_alike : (t u : Table) → Grown t u → (k : Home) (m : Text) (j : Option Text) → ((c : ℕ) → cell_of u k m None ≡ Some c → Still t.contents u.contents c) → ((c : ℕ) → cell_of u k m j ≡ Some c → Still t.contents u.contents c)
    → ReadsAlike t u k m j
reads_alike t u grown k m j whole part = elim (grown.slots k m) as (λ _. read_there u k m j ≡ read_there t k m j) [
  | inl e ↦ slot_alike t.contents u.contents grown.cells (slot_of u.scopes k m) j whole part ∙ ap (λ o. read_slot t.contents o j) e
  | inr new ↦ ap (λ o. read_slot u.contents o j) new.now ∙ bare_slot u.contents new.slot j (whole new.slot.cell (ap (λ o. cell_slot u.contents o None) new.now) new.nothing)
      ∙ sym (ap (λ o. read_slot t.contents o j) new.was)
]

-- Finding a cell

-- The tables grow, and of the cells that held nothing only that of the name holds something then, where an element was asked for.
pub record Made (t : Table) (h : Home) (n : Text) (index : Option Text) (s : Spot) : Type 0 where
  pub grown : Grown t s.after
  pub only : (c : ℕ) → get t.contents c ≡ None → (get s.after.contents c ≡ None) ⊎ ((is_some index ≡ true) × (cell_of s.after h n None ≡ Some c))

abbrev Makes : Table → Home → Text → Option Text → Result Spot VarFault → Type 0
Makes t h n index r = MatchResult r (λ s. Made t h n index s) (λ e. Unit {0})

unchanged : (t : Table) (h : Home) (n : Text) (index : Option Text) (c : ℕ) → Makes t h n index (there t c)
unchanged t h n index c = record { grown = record { slots = λ k m. inl refl; cells = same_cells t.contents }; only = λ d e. inl e }

module _ (t : Table) (numbered : Numbered t) (h : Home) (n : Text) where
  module _ (here : IsThere t.scopes h) (none : slot_of t.scopes h n ≡ None) where
    abbrev own : Slot
    own = record { cell = t.next; own = true }

    new_names : (u : Table) → u.scopes ≡ with_name t.scopes h n own → (k : Home) (m : Text) → (slot_of u.scopes k m ≡ slot_of t.scopes k m) ⊎ NewName t u k m
    new_names u e k m = elim (slot_with t.scopes h n own k m) as (λ _. (slot_of u.scopes k m ≡ slot_of t.scopes k m) ⊎ NewName t u k m) [
      | inr g ↦ inl (ap (λ s. slot_of s k m) e ∙ g)
      | inl p ↦ inr (record {
        was = ap (λ z. slot_of t.scopes z m) (sym p.0) ∙ ap (slot_of t.scopes h) (sym p.1) ∙ none;
        slot = own;
        now = ap (λ s. slot_of s k m) e ∙ ap (λ z. slot_of (with_name t.scopes h n own) z m) (sym p.0) ∙ ap (slot_of (with_name t.scopes h n own) h) (sym p.1) ∙ slot_here t.scopes h n own here;
        nothing = beyond t t.next numbered (omega arith);
      })
    ]

    makes_new : (index : Option Text) → Makes t h n index (locate_slot t h n None index)
    makes_new None = record { grown = record { slots = new_names _ refl; cells = same_cells t.contents }; only = λ c e. inl e }
    makes_new (Some i) =
        let ds : Numbers Content = insert t.contents t.next (Array (insert empty i (t.next + 1))) in
        let nothing : get t.contents t.next ≡ None = beyond t t.next numbered (omega arith) in
        record {
          grown = record { slots = new_names _ refl; cells = grown_array t.contents t.next empty i (t.next + 1) (inl nothing) (ap elements_of nothing) (get-empty by_text i) (beyond t (t.next + 1) numbered (omega arith)) };
          only = λ c e. elim (put_number t.contents t.next (Array (insert empty i (t.next + 1))) c) as (λ _. (get ds c ≡ None) ⊎ ((true ≡ true) × (cell_slot ds (slot_of (with_name t.scopes h n own) h n) None ≡ Some c))) [
            | inl p ↦ inr (refl, ap (λ o. cell_slot ds o None) (slot_here t.scopes h n own here) ∙ ap (λ x. Some x) (sym p.0))
            | inr g ↦ inl (g ∙ e)
          ];
        }

  module _ (s : Slot) (at : slot_of t.scopes h n ≡ Some s) (i : Text) where
    makes_more : (es : Named ℕ) → (get t.contents s.cell ≡ None) ⊎ (get t.contents s.cell ≡ Some (Array es)) → elements_of (get t.contents s.cell) ≡ es → get es i ≡ None → Makes t h n (Some i) (Ok (new_element t s.cell es i))
    makes_more es held was new =
        let ds : Numbers Content = insert t.contents s.cell (Array (insert es i t.next)) in
        record {
          grown = record { slots = λ k m. inl refl; cells = grown_array t.contents s.cell es i t.next held was new (beyond t t.next numbered (omega arith)) };
          only = λ c e. elim (put_number t.contents s.cell (Array (insert es i t.next)) c) as (λ _. (get ds c ≡ None) ⊎ ((true ≡ true) × (cell_slot ds (slot_of t.scopes h n) None ≡ Some c))) [
            | inl p ↦ inr (refl, ap (λ o. cell_slot ds o None) at ∙ ap (λ x. Some x) (sym p.0))
            | inr g ↦ inl (g ∙ e)
          ];
        }

    makes_in : (es : Named ℕ) → get t.contents s.cell ≡ Some (Array es) → (o : Option ℕ) → get es i ≡ o → Makes t h n (Some i) (locate_in t s.cell es i o)
    makes_in es e None f = makes_more es (inr e) (ap elements_of e) f
    makes_in es e (Some x) f = unchanged t h n (Some i) x

    makes_of : (o : Option Content) → get t.contents s.cell ≡ o → Makes t h n (Some i) (locate_element t s.cell o i)
    makes_of None e = makes_more empty (inl e) (ap elements_of e) (get-empty by_text i)
    makes_of (Some Plain) e = tt
    makes_of (Some (Array es)) e = makes_in es e (get es i) refl

  makes_slot : IsThere t.scopes h → (o : Option Slot) → slot_of t.scopes h n ≡ o → (index : Option Text) → Makes t h n index (locate_slot t h n o index)
  makes_slot here None e index = makes_new here e index
  makes_slot here (Some s) e None = unchanged t h n None s.cell
  makes_slot here (Some s) e (Some i) = makes_of s e i (get t.contents s.cell) refl

pub made : (t : Table) (h : Home) (n : Text) (index : Option Text) (s : Spot) → Numbered t → IsThere t.scopes h → locate t h n index ≡ Ok s → Made t h n index s
made t h n index s numbered here e = subst (Makes t h n index) e (makes_slot t numbered h n here (slot_of t.scopes h n) refl index)

-- Writing

-- The tables grow, and of the cells that held nothing only those of the name and of its element hold something then.
pub record Set (t : Table) (h : Home) (n : Text) (index : Option Text) (u : Table) : Type 0 where
  pub grown : Grown t u
  pub only : (c : ℕ) → get t.contents c ≡ None → (get u.contents c ≡ None) ⊎ ((cell_of u h n None ≡ Some c) ⊎ (cell_of u h n index ≡ Some c))

-- what was found, or nothing, and then a value in a cell that held nothing
value_set : (t v : Table) (h : Home) (n : Text) (index : Option Text) (c : ℕ) → Grown t v → ((d : ℕ) → get t.contents d ≡ None → (get v.contents d ≡ None) ⊎ (cell_of (plain v c) h n None ≡ Some d)) → get v.contents c ≡ None
    → cell_of (plain v c) h n index ≡ Some c → Set t h n index (plain v c)
value_set t v h n index c grown only none at = record {
  grown = record {
    slots = λ k m. elim (grown.slots k m) as (λ _. (slot_of v.scopes k m ≡ slot_of t.scopes k m) ⊎ NewName t (plain v c) k m) [
      | inl e ↦ inl e
      | inr new ↦ inr (record { was = new.was; slot = new.slot; now = new.now; nothing = new.nothing })
    ];
    cells = further t.contents v.contents (insert v.contents c Plain) grown.cells (grown_value v.contents c none);
  };
  only = λ d e. elim (only d e) as (λ _. (get (insert v.contents c Plain) d ≡ None) ⊎ ((cell_of (plain v c) h n None ≡ Some d) ⊎ (cell_of (plain v c) h n index ≡ Some d))) [
    | inr f ↦ inr (inl f)
    | inl f ↦ elim (put_number v.contents c Plain d) as (λ _. (get (insert v.contents c Plain) d ≡ None) ⊎ ((cell_of (plain v c) h n None ≡ Some d) ⊎ (cell_of (plain v c) h n index ≡ Some d))) [
      | inl p ↦ inr (inr (at ∙ ap (λ x. Some x) (sym p.0)))
      | inr g ↦ inl (g ∙ f)
    ]
  ];
}

same_cell : (cs ds : Numbers Content) (o : Option Slot) → cell_slot ds o None ≡ cell_slot cs o None
same_cell cs ds None = refl
same_cell cs ds (Some s) = refl

abbrev AllSet : Table → Home → Text → Option Text → Result Spot VarFault → Type 0
AllSet t h n index r = MatchResult r (λ s. Set t h n index s.after) (λ e. Unit {0})

cell_set : (t : Table) (h : Home) (n : Text) (index : Option Text) (c : ℕ) (o : Option Content) → get t.contents c ≡ o → cell_of t h n index ≡ Some c → AllSet t h n index (set_cell t c o)
cell_set t h n index c None e at = value_set t t h n index c (record { slots = λ k m. inl refl; cells = same_cells t.contents }) (λ d f. inl f) e (cell_grows t (plain t c) (value_put t c e) h n index c at)
cell_set t h n index c (Some Plain) e at = record { grown = record { slots = λ k m. inl refl; cells = same_cells t.contents }; only = λ d f. inl f }
cell_set t h n index c (Some (Array es)) e at = tt

spot_set : (t : Table) (h : Home) (n : Text) (index : Option Text) (s : Spot) → Located t h n index s → Made t h n index s → AllSet t h n index (set_spot t (Ok s))
spot_set t h n index s l m = elim (s.fresh) as (λ b. s.fresh ≡ b → AllSet t h n index (if b then Ok (record { cell = s.cell; fresh = b; after = plain s.after s.cell }) else set_cell t s.cell (get t.contents s.cell))) [
  | true ↦ λ e. value_set t s.after h n index s.cell m.grown (λ d f. elim (m.only d f) as (λ _. (get s.after.contents d ≡ None) ⊎ (cell_of (plain s.after s.cell) h n None ≡ Some d)) [
    | inl g ↦ inl g
    | inr g ↦ inr (same_cell s.after.contents (plain s.after s.cell).contents (slot_of s.after.scopes h n) ∙ g.1)
  ]) (l.empty_cell e) (cell_grows s.after (plain s.after s.cell) (value_put s.after s.cell (l.empty_cell e)) h n index s.cell l.cell)
  | false ↦ λ e. cell_set t h n index s.cell (get t.contents s.cell) refl (ap (λ u. cell_of u h n index) (sym (l.same e)) ∙ l.cell)
] refl

pub set_write : (t : Table) (h : Home) (n : Text) (index : Option Text) (s : Spot) → Numbered t → IsThere t.scopes h → write_there t h n index ≡ Ok s → Set t h n index s.after
set_write t h n index s numbered here e = elim (locate t h n index) as (λ r. locate t h n index ≡ r → set_spot t r ≡ Ok s → Set t h n index s.after) [
  | Err x ↦ λ _ f. no_err f
  | Ok q ↦ λ at f. subst (AllSet t h n index) f (spot_set t h n index q (located t h n index q numbered here at) (made t h n index q numbered here at))
] refl e

-- Cells that are listed

same_number : (c : ℕ) → nat_eq c c ≡ true
same_number c = unsigned_ties c c ∙ (eq_by_cmp_equiv nat_cmp_total).refl c

pub among_left : (xs ys : List ℕ) (c : ℕ) → is_among xs c ≡ true → is_among (xs ++ ys) c ≡ true
among_left [] ys c h = absurd (true≢false (sym h))
among_left (x ∷ xs) ys c h = elim (nat_eq c x) as (λ b. b || is_among xs c ≡ true → b || is_among (xs ++ ys) c ≡ true) [ true ↦ λ _. refl | false ↦ λ g. among_left xs ys c g ] h

pub among_right : (xs ys : List ℕ) (c : ℕ) → is_among ys c ≡ true → is_among (xs ++ ys) c ≡ true
among_right [] ys c h = h
among_right (x ∷ xs) ys c h = elim (nat_eq c x) as (λ b. b || is_among (xs ++ ys) c ≡ true) [ true ↦ refl | false ↦ among_right xs ys c h ]

pub is_vacant : (cs : Numbers Content) (o : Option ℕ) (c : ℕ) → o ≡ Some c → get cs c ≡ None → is_among (vacant cs o) c ≡ true
is_vacant cs o c e none = ap (λ p. is_among (vacant cs p) c) e ∙ ap (λ g. is_among (if is_some g then [] else c ∷ []) c) none ∙ ap (λ b. b || false) (same_number c)

-- Where cells are cleared

kept_unless : {A : Type 0} (o : Option A) (b : Bool) → is_some o && b ≡ false → cond (not b) o None ≡ o
kept_unless None true h = refl
kept_unless None false h = refl
kept_unless (Some x) true h = absurd (true≢false h)
kept_unless (Some x) false h = refl

module _ (cs : Numbers Content) (fs : List ℕ) where
  abbrev held : List ℕ
  held = filter (λ k. is_some (get cs k)) fs

  -- a cell that is none of those that held something holds what it held
  stays : (c : ℕ) → is_among held c ≡ false → get (without cs fs) c ≡ get cs c
  stays c e =
      let both : is_among held c ≡ (is_some (get cs c) && is_among fs c) = any-filter_same (nat_eq c) (λ k. is_some (get cs k)) (is_some (get cs c)) (λ k p. ap (λ x. is_some (get cs x)) (sym (nat_cmp-IsAntisymmetric c k (tied (nat_cmp c k) (sym (unsigned_ties c k) ∙ p))))) fs in
      get-without cs fs c ∙ kept_unless (get cs c) (is_among fs c) (sym both ∙ e)

  in_stays : (o : Option ℕ) → ((c : ℕ) → o ≡ Some c → is_among held c ≡ false) → read_in (without cs fs) o ≡ read_in cs o
  in_stays None out = refl
  in_stays (Some e) out = ap (λ o. plain_at fault.NoElement o e) (stays e (out e refl))

  element_stays : (o : Option Content) (i : Text) → ((c : ℕ) → get (elements_of o) i ≡ Some c → is_among held c ≡ false) → read_element (without cs fs) o i ≡ read_element cs o i
  element_stays None i out = refl
  element_stays (Some Plain) i out = refl
  element_stays (Some (Array es)) i out = in_stays (get es i) out

  pub slot_stays : (o : Option Slot) (j : Option Text) → ((c : ℕ) → cell_slot cs o None ≡ Some c → is_among held c ≡ false) → ((c : ℕ) → cell_slot cs o j ≡ Some c → is_among held c ≡ false) → read_slot (without cs fs) o j ≡ read_slot cs o j
  slot_stays None j whole part = refl
  slot_stays (Some s) None whole part = ap (λ o. plain_at fault.NoVariable o s.cell) (stays s.cell (whole s.cell refl))
  slot_stays (Some s) (Some i) whole part = ap (λ o. read_element (without cs fs) o i) (stays s.cell (whole s.cell refl)) ∙ element_stays (get cs s.cell) i part
