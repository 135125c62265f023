-- The tables stay sound.
use Rattle.std.proofs.Common.{◌≡◌, ◌≢◌, ℕ, zero, suc, ◌+◌, ◌-◌, ◌<◌, Bool, true, false, cond, ◌⊎◌, inl, inr, true≢false, length, Option, None, Some, refl, sym, ap, subst, ◌∙◌, arith, IfSome}
use Rattle.std.specs.Prelude.{Result, Ok, Err, MatchResult, if◌then◌else◌, nat_lt}
use Rattle.std.specs.Ordering.{nat_cmp, eq_by_cmp}
use Rattle.std.specs.Cmp.{nat_cmp_total}
use Rattle.std.specs.Cmp.Lexicographic.{nat_list_cmp_total}
use Rattle.std.specs.Option.{unwrap_or}
use Rattle.std.specs.FinMap.{get, insert, empty, get-insert, get-empty, nat_cmp-IsAntisymmetric, slice_cmp-IsAntisymmetric}
use Rattle.tclv_text.specs.Texts.{IsText}
use Rattle.tclv_names.specs.Keyed.{Text, by_text, Named, Numbers}
use Rattle.tclv_vars.specs.declared.parts.Slot.{Slot}
use Rattle.tclv_vars.specs.declared.parts.Content.{Content}
use Rattle.tclv_vars.specs.declared.parts.Content.TheVariants.{Plain, Array}
use Rattle.tclv_vars.specs.declared.places.Home.{Home}
use Rattle.tclv_vars.specs.declared.places.Home.TheVariants.{Local, Of}
use Rattle.tclv_vars.specs.declared.places.Place.{Place}
use Rattle.tclv_vars.specs.declared.faults.VarFault.{VarFault}
use Rattle.tclv_vars.specs.Scoping.{Scoping, names_in, slot_of, home, with_name, pushed, at_start, at_frame, at_level, level_of, above}
use Rattle.tclv_vars.specs.Table.{Table, no_variables, Spot, new_name, new_array, named, new_element, locate_in, locate_element, locate_slot, locate, set_cell, set_spot, write, at_scopes, plain, elements_of, Gives}
use Rattle.tclv_vars.specs.Links.{second_name}
use Rattle.tclv_vars.specs.Sound.{Sound, IsNested}
use Rattle.tclv_vars.proofs.ScopeLemmas.{tied, same_some, none_some, slot_cases, frame_end, IsNested-with_names, IsNested-at_frame, IsNested-pushed, above_level}

pub content_cases : (cs : Numbers Content) (c : ℕ) (x : Content) (a : ℕ) (y : Content) → get (insert cs c x) a ≡ Some y → ((a ≡ c) × (y ≡ x)) ⊎ (get cs a ≡ Some y)
content_cases cs c x a y h = elim (eq_by_cmp nat_cmp a c) as (λ b. eq_by_cmp nat_cmp a c ≡ b → cond b (Some x) (get cs a) ≡ Some y → ((a ≡ c) × (y ≡ x)) ⊎ (get cs a ≡ Some y)) [
  | true ↦ λ e g. inl (nat_cmp-IsAntisymmetric a c (tied (nat_cmp a c) e), sym (same_some x y g))
  | false ↦ λ e g. inr g
] refl (sym (get-insert nat_cmp_total cs c x a) ∙ h)

element_cases : (es : Named ℕ) (n : Text) (x : ℕ) (m : Text) (y : ℕ) → get (insert es n x) m ≡ Some y → ((m ≡ n) × (y ≡ x)) ⊎ (get es m ≡ Some y)
element_cases es n x m y h = elim (eq_by_cmp by_text m n) as (λ b. eq_by_cmp by_text m n ≡ b → cond b (Some x) (get es m) ≡ Some y → ((m ≡ n) × (y ≡ x)) ⊎ (get es m ≡ Some y)) [
  | true ↦ λ e g. inl (slice_cmp-IsAntisymmetric nat_cmp-IsAntisymmetric m n (tied (by_text m n) e), sym (same_some x y g))
  | false ↦ λ e g. inr g
] refl (sym (get-insert nat_list_cmp_total es n x m) ∙ h)

-- a new name keeps the tables sound
pub Sound-new_name : (t : Table) (h : Home) (n : Text) → Sound t → Sound (new_name t h n).after
Sound-new_name t h n sound =
    let put : Slot = record { cell = t.next; own = true } in
    record {
      nested = IsNested-with_names t.scopes h (insert (names_in t.scopes h) n put) sound.nested;
      named = λ k m s at. elim (slot_cases t.scopes h n put k m s at) as (λ _. s.cell < t.next + 1) [
        | inl p ↦ let e : s.cell ≡ t.next = ap (λ (x : Slot). x.cell) p.2 in omega (arith, e)
        | inr g ↦ let b = sound.named k m s g in omega (arith, b)
      ];
      given = λ c x at. let b = sound.given c x at in omega (arith, b);
      inside = λ a es i e at in_es. let b = sound.inside a es i e at in_es in omega (arith, b);
      texts = sound.texts;
      distinct = λ k m j s o at bt p q ne same. elim (slot_cases t.scopes h n put k m s at) as (λ _. ⊥) [
        | inl x ↦ elim (slot_cases t.scopes h n put k j o bt) as (λ _. ⊥) [
          | inl y ↦ ne (x.1 ∙ sym y.1)
          | inr g ↦ let b = sound.named k j o g in let e : s.cell ≡ t.next = ap (λ (z : Slot). z.cell) x.2 in omega (arith, b, e, same)
        ]
        | inr f ↦ elim (slot_cases t.scopes h n put k j o bt) as (λ _. ⊥) [
          | inl y ↦ let b = sound.named k m s f in let e : o.cell ≡ t.next = ap (λ (z : Slot). z.cell) y.2 in omega (arith, b, e, same)
          | inr g ↦ sound.distinct k m j s o f g p q ne same
        ]
      ];
      apart = λ k m s a es i e at p c d same. elim (slot_cases t.scopes h n put k m s at) as (λ _. ⊥) [
        | inl x ↦ let b = sound.inside a es i e c d in let f : s.cell ≡ t.next = ap (λ (z : Slot). z.cell) x.2 in omega (arith, b, f, same)
        | inr g ↦ sound.apart k m s a es i e g p c d same
      ];
    }

-- so does a name that becomes a second name of a cell that was given out
pub Sound-second_name : (t : Table) (h : Home) (n : Text) (c : ℕ) → c < t.next → Sound t → Sound (second_name t h n c)
Sound-second_name t h n c below sound =
    let put : Slot = record { cell = c; own = false } in
    let owns : (k : Home) (m : Text) (s : Slot) → slot_of (with_name t.scopes h n put) k m ≡ Some s → s.own ≡ true → slot_of t.scopes k m ≡ Some s =
    λ k m s at p. elim (slot_cases t.scopes h n put k m s at) as (λ _. slot_of t.scopes k m ≡ Some s) [
      | inl x ↦ absurd (true≢false (sym p ∙ ap (λ (z : Slot). z.own) x.2))
      | inr g ↦ g
    ] in
    record {
      nested = IsNested-with_names t.scopes h (insert (names_in t.scopes h) n put) sound.nested;
      named = λ k m s at. elim (slot_cases t.scopes h n put k m s at) as (λ _. s.cell < t.next) [
        | inl p ↦ let e : s.cell ≡ c = ap (λ (x : Slot). x.cell) p.2 in omega (arith, e, below)
        | inr g ↦ sound.named k m s g
      ];
      given = sound.given;
      inside = sound.inside;
      texts = sound.texts;
      distinct = λ k m j s o at bt p q. sound.distinct k m j s o (owns k m s at p) (owns k j o bt q) p q;
      apart = λ k m s a es i e at p. sound.apart k m s a es i e (owns k m s at p) p;
    }

-- names may go, and none may come
pub Sound-names : (t : Table) (s : Scoping) → IsNested s → ((k : Home) (m : Text) (o : Slot) → slot_of s k m ≡ Some o → slot_of t.scopes k m ≡ Some o) → Sound t → Sound (at_scopes t s)
Sound-names t s nested sub sound = record {
  nested = nested;
  named = λ k m o at. sound.named k m o (sub k m o at);
  given = sound.given;
  inside = sound.inside;
  texts = sound.texts;
  distinct = λ k m j x o at bt. sound.distinct k m j x o (sub k m x at) (sub k j o bt);
  apart = λ k m x a es i e at. sound.apart k m x a es i e (sub k m x at);
}

pub Sound-pushed : (t : Table) (space : ℕ) (local : Bool) → Sound t → Sound (at_scopes t (pushed t.scopes space local))
Sound-pushed t space local sound = Sound-names t (pushed t.scopes space local) (IsNested-pushed t.scopes space local sound.nested) by sound
  where
    by : (k : Home) (m : Text) (o : Slot) → slot_of (pushed t.scopes space local) k m ≡ Some o → slot_of t.scopes k m ≡ Some o
    by (Of n) m o h = h
    by (Local j) m o h = elim (frame_end t.scopes.frames _ j m o h) as (λ _. slot_of t.scopes (Local j) m ≡ Some o) [
      | inl g ↦ none_some (sym (get-empty by_text m) ∙ g)
      | inr g ↦ g
    ]

pub Sound-at_frame : (t : Table) (i : ℕ) → i < length t.scopes.frames → Sound t → Sound (at_scopes t (at_frame t.scopes i))
Sound-at_frame t i b sound = Sound-names t (at_frame t.scopes i) (IsNested-at_frame t.scopes i b sound.nested) by sound
  where
    by : (k : Home) (m : Text) (o : Slot) → slot_of (at_frame t.scopes i) k m ≡ Some o → slot_of t.scopes k m ≡ Some o
    by (Of n) m o h = h
    by (Local j) m o h = h

-- cell c becomes an array of es and a new element
pub Sound-element : (t : Table) (c : ℕ) (es : Named ℕ) (i : Text) → IsText i → c < t.next → ((j : Text) (e : ℕ) → get es j ≡ Some e → (e < t.next) × IsText j × ((k : Home) (m : Text) (s : Slot) → slot_of t.scopes k m ≡ Some s → s.own ≡ true → s.cell ≢ e)) → Sound t → Sound (new_element t c es i).after
Sound-element t c es i text below given sound =
    let kept : (a : ℕ) (fs : Named ℕ) (j : Text) (e : ℕ) → get (insert t.contents c (Array (insert es i t.next))) a ≡ Some (Array fs) → get fs j ≡ Some e
    → ((j ≡ i) × (e ≡ t.next)) ⊎ ((e < t.next) × IsText j × ((k : Home) (m : Text) (s : Slot) → slot_of t.scopes k m ≡ Some s → s.own ≡ true → s.cell ≢ e)) =
    λ a fs j e at h. elim (content_cases t.contents c (Array (insert es i t.next)) a (Array fs) at) as (λ _. ((j ≡ i) × (e ≡ t.next)) ⊎ ((e < t.next) × IsText j × ((k : Home) (m : Text) (s : Slot) → slot_of t.scopes k m ≡ Some s → s.own ≡ true → s.cell ≢ e))) [
      | inl same ↦ elim (element_cases es i t.next j e (ap (λ x. get (elements_of (Some x)) j) (sym same.1) ∙ h)) as (λ _. ((j ≡ i) × (e ≡ t.next)) ⊎ ((e < t.next) × IsText j × ((k : Home) (m : Text) (s : Slot) → slot_of t.scopes k m ≡ Some s → s.own ≡ true → s.cell ≢ e))) [
        | inl new ↦ inl new
        | inr was ↦ inr (given j e was)
      ]
      | inr there ↦ inr (sound.inside a fs j e there h, sound.texts a fs j e there h, λ k m s x p. sound.apart k m s a fs j e x p there h)
    ] in
    record {
      nested = sound.nested;
      named = λ k m s at. let b = sound.named k m s at in omega (arith, b);
      given = λ a x at. elim (content_cases t.contents c (Array (insert es i t.next)) a x at) as (λ _. a < t.next + 1) [
        | inl p ↦ let q = p.0 in omega (arith, q, below)
        | inr g ↦ let b = sound.given a x g in omega (arith, b)
      ];
      inside = λ a fs j e at h. elim (kept a fs j e at h) as (λ _. e < t.next + 1) [ inl new ↦ let q = new.1 in omega (arith, q) | inr g ↦ let b = g.0 in omega (arith, b) ];
      texts = λ a fs j e at h. elim (kept a fs j e at h) as (λ _. IsText j) [ inl new ↦ subst IsText (sym new.0) text | inr g ↦ g.1 ];
      distinct = sound.distinct;
      apart = λ k m s a fs j e x p at h same. elim (kept a fs j e at h) as (λ _. ⊥) [ inl new ↦ let b = sound.named k m s x in let q = new.1 in omega (arith, b, q, same) | inr g ↦ g.2 k m s x p same ];
    }

no_elements : (t : Table) (j : Text) (e : ℕ) → get (empty {X = ℕ} {R = by_text}) j ≡ Some e → (e < t.next) × IsText j × ((k : Home) (m : Text) (s : Slot) → slot_of t.scopes k m ≡ Some s → s.own ≡ true → s.cell ≢ e)
no_elements t j e h = none_some (sym (get-empty by_text j) ∙ h)

abbrev is_array : Content → Bool
is_array Plain = false
is_array (Array es) = true

pub Sound-plain : (t : Table) (c : ℕ) → c < t.next → Sound t → Sound (plain t c)
Sound-plain t c below sound =
    let sub : (a : ℕ) (es : Named ℕ) → get (insert t.contents c Plain) a ≡ Some (Array es) → get t.contents a ≡ Some (Array es) =
    λ a es h. elim (content_cases t.contents c Plain a (Array es) h) as (λ _. get t.contents a ≡ Some (Array es)) [
      | inl e ↦ absurd (true≢false (ap is_array e.1))
      | inr g ↦ g
    ] in
    record {
      nested = sound.nested;
      named = sound.named;
      given = λ a x at. elim (content_cases t.contents c Plain a x at) as (λ _. a < t.next) [
        | inl p ↦ let q = p.0 in omega (arith, q, below)
        | inr g ↦ sound.given a x g
      ];
      inside = λ a es i e at h. sound.inside a es i e (sub a es at) h;
      texts = λ a es i e at h. sound.texts a es i e (sub a es at) h;
      distinct = sound.distinct;
      apart = λ k m s a es i e at p d. sound.apart k m s a es i e at p (sub a es d);
    }

pub Sound-new_array : (t : Table) (h : Home) (n i : Text) → IsText i → Sound t → Sound (new_array t h n i).after
Sound-new_array t h n i text sound =
    let e : (t.next + 1) + 1 ≡ t.next + 2 = omega arith in
    subst (λ x. Sound (record { scopes = named t h n; contents = insert t.contents t.next (Array (insert empty i (t.next + 1))); next = x })) e
    (Sound-element (new_name t h n).after t.next empty i text (omega arith) (no_elements (new_name t h n).after) (Sound-new_name t h n sound))

-- the tables with the spot are sound, and its cell was given out
abbrev pub After : Result Spot VarFault → Type 0
After r = MatchResult r (λ s. Sound s.after × (s.cell < s.after.next)) (λ e. Unit {0})

located_in : (t : Table) (c : ℕ) (es : Named ℕ) (i : Text) (o : Option ℕ) → IsText i → get t.contents c ≡ Some (Array es) → get es i ≡ o → Sound t → After (locate_in t c es i o)
located_in t c es i None text e f sound = (Sound-element t c es i text (sound.given c (Array es) e) (λ j x h. (sound.inside c es j x e h, sound.texts c es j x e h, λ k m s a p. sound.apart k m s c es j x a p e h)) sound, omega arith)
located_in t c es i (Some x) text e f sound = (sound, sound.inside c es i x e f)

located_element : (t : Table) (c : ℕ) (o : Option Content) (i : Text) → IsText i → c < t.next → get t.contents c ≡ o → Sound t → After (locate_element t c o i)
located_element t c None i text b e sound = (Sound-element t c empty i text b (no_elements t) sound, omega arith)
located_element t c (Some Plain) i text b e sound = tt
located_element t c (Some (Array es)) i text b e sound = located_in t c es i (get es i) text e refl sound

located_slot : (t : Table) (h : Home) (n : Text) (o : Option Slot) (index : Option Text) → IfSome index IsText → slot_of t.scopes h n ≡ o → Sound t → After (locate_slot t h n o index)
located_slot t h n None None text e sound = (Sound-new_name t h n sound, omega arith)
located_slot t h n None (Some i) text e sound = (Sound-new_array t h n i text sound, omega arith)
located_slot t h n (Some s) None text e sound = (sound, sound.named h n s e)
located_slot t h n (Some s) (Some i) text e sound = located_element t s.cell (get t.contents s.cell) i text (sound.named h n s e) refl sound

pub After-locate : (t : Table) (h : Home) (n : Text) (index : Option Text) → IfSome index IsText → Sound t → After (locate t h n index)
After-locate t h n index text = located_slot t h n (slot_of t.scopes h n) index text refl

set_cell_sound : (t : Table) (c : ℕ) (o : Option Content) → c < t.next → Sound t → After (set_cell t c o)
set_cell_sound t c None b sound = (Sound-plain t c b sound, b)
set_cell_sound t c (Some Plain) b sound = (sound, b)
set_cell_sound t c (Some (Array es)) b sound = tt

-- a write changes the cell of an old table only where it was there, so below its next number
abbrev Within : Table → Result Spot VarFault → Type 0
Within t r = MatchResult r (λ s. s.fresh ≡ false → s.cell < t.next) (λ e. Unit {0})

within_in : (t : Table) (c : ℕ) (es : Named ℕ) (i : Text) (o : Option ℕ) → get t.contents c ≡ Some (Array es) → get es i ≡ o → Sound t → Within t (locate_in t c es i o)
within_in t c es i None e f sound = λ h. absurd (true≢false h)
within_in t c es i (Some x) e f sound = λ h. sound.inside c es i x e f

within_element : (t : Table) (c : ℕ) (o : Option Content) (i : Text) → get t.contents c ≡ o → Sound t → Within t (locate_element t c o i)
within_element t c None i e sound = λ h. absurd (true≢false h)
within_element t c (Some Plain) i e sound = tt
within_element t c (Some (Array es)) i e sound = within_in t c es i (get es i) e refl sound

within_slot : (t : Table) (h : Home) (n : Text) (o : Option Slot) (index : Option Text) → slot_of t.scopes h n ≡ o → Sound t → Within t (locate_slot t h n o index)
within_slot t h n None None e sound = λ b. absurd (true≢false b)
within_slot t h n None (Some i) e sound = λ b. absurd (true≢false b)
within_slot t h n (Some s) None e sound = λ b. sound.named h n s e
within_slot t h n (Some s) (Some i) e sound = within_element t s.cell (get t.contents s.cell) i refl sound

wrote_sound : (t : Table) (r : Result Spot VarFault) → After r → Within t r → Sound t → After (set_spot t r)
wrote_sound t (Err e) a w sound = tt
wrote_sound t (Ok s) a w sound = elim (s.fresh) as (λ b. (b ≡ false → s.cell < t.next) → After (if b then Ok (record s { after = plain s.after s.cell }) else set_cell t s.cell (get t.contents s.cell))) [
  | true ↦ λ _. (Sound-plain s.after s.cell a.1 a.0, a.1)
  | false ↦ λ b. set_cell_sound t s.cell _ (b refl) sound
] w

pub After-write : (t : Table) (at : Place) (n : Text) (index : Option Text) → IfSome index IsText → Sound t → After (write t at n index)
After-write t at n index text sound =
    let h = home t.scopes at in
    wrote_sound t (locate t h n index) (After-locate t h n index text sound) (within_slot t h n (slot_of t.scopes h n) index refl sound) sound

pub Sound-Gives : (m : Result Spot VarFault) (old : Table) (r : Result (ℕ × Bool) VarFault) (new : Table) → After m → Sound old → Gives m old r new → Sound new
Sound-Gives m old (Ok p) new a sound g = (subst After g a).0
Sound-Gives m old (Err e) new a sound g = subst Sound (sym g.1) sound

pub Sound-no_variables : Sound no_variables
Sound-no_variables = record {
  nested = record {
    current = omega arith;
    first = refl;
    global = refl;
    earlier = λ i p b. absurd (omega (arith, p, b));
    higher = λ i p b. absurd (omega (arith, p, b));
  };
  named = λ h n s at. nothing h n s at;
  given = λ c x at. none_some (sym (get-empty nat_cmp c) ∙ at);
  inside = λ a es i e at h. none_some (sym (get-empty nat_cmp a) ∙ at);
  texts = λ a es i e at h. none_some (sym (get-empty nat_cmp a) ∙ at);
  distinct = λ h n m s o at bt p q ne same. nothing h n s at;
  apart = λ h n s a es i e at p c d same. nothing h n s at;
}
  where
    nothing : {P : Type 0} (h : Home) (n : Text) (s : Slot) → slot_of at_start h n ≡ Some s → P
    nothing (Local zero) n s at = none_some (sym (get-empty by_text n) ∙ at)
    nothing (Local (suc j)) n s at = none_some (sym (get-empty by_text n) ∙ at)
    nothing (Of b) n s at = none_some (sym (ap (λ (o : Option (Named Slot)). get (unwrap_or o empty) n) (get-empty nat_cmp b) ∙ get-empty by_text n) ∙ at)

-- the level that is asked for is that of a frame that is there
pub Sound-at_level : (t : Table) (l : ℕ) → Sound t → Sound (at_scopes t (at_level t.scopes l))
Sound-at_level t l sound = elim (nat_lt (level_of t.scopes t.scopes.current) l) as (λ b. Sound (at_scopes t (if b then t.scopes else at_frame t.scopes (above t.scopes (level_of t.scopes t.scopes.current - l) t.scopes.current)))) [
  | true ↦ sound
  | false ↦ Sound-at_frame t _ (above_level t.scopes (level_of t.scopes t.scopes.current - l) t.scopes.current sound.nested sound.nested.current (omega arith)).0 sound
]
