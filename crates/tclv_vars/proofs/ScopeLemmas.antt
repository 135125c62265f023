-- Frames and names: what stays, and what the frames above a frame are.
use Rattle.std.proofs.Common.{◌≡◌, ℕ, zero, suc, ◌+◌, ◌-◌, ◌<◌, ◌≤◌, ◌⊎◌, inl, inr, Bool, true, false, cond, is_some, true≢false, List, [], ◌∷◌, ◌++◌, length, slice_get, slice_set, None, Some, refl, sym, ap, subst, ◌∙◌, arith}
use Rattle.std.specs.Prelude.{if◌then◌else◌, take, nat_lt, Result, Ok, Err, OnOk, IfOk}
use Rattle.tclv_vars.specs.declared.faults.VarFault.{VarFault}
use Rattle.tclv_vars.specs.declared.faults.VarFault.TheVariants.{NoLevel}
use Rattle.std.specs.declared.cmp.Ordering.{Ordering}
use Rattle.std.specs.declared.cmp.Ordering.TheVariants.{Less, Equal, Greater}
use Rattle.std.specs.Ordering.{nat_cmp, eq_by_cmp, is_eq}
use Rattle.std.specs.Cmp.{nat_cmp_total}
use Rattle.std.specs.Cmp.Lexicographic.{nat_list_cmp_total}
use Rattle.std.proofs.lemmas.Bool.{ltb-false}
use Rattle.std.specs.Option.{option_map_or, unwrap_or}
use Rattle.std.specs.FinMap.{get, insert, empty, get-insert, get-empty, nat_cmp-IsAntisymmetric, slice_cmp-IsAntisymmetric}
use Rattle.tclv_names.specs.Keyed.{Text, by_text, Named}
use Rattle.tclv_vars.specs.declared.parts.Slot.{Slot}
use Rattle.tclv_vars.specs.declared.parts.Frame.{Frame}
use Rattle.tclv_vars.specs.declared.places.Home.{Home}
use Rattle.tclv_vars.specs.declared.places.Home.TheVariants.{Local, Of}
use Rattle.tclv_vars.specs.declared.places.Place.{Place}
use Rattle.tclv_vars.specs.declared.places.Place.TheVariants as place
use Rattle.tclv_vars.specs.Scoping.{Scoping, home, home_of, names_in, name_frame, with_names, with_name, slot_of, level_of, caller_of, above, pushed, popped, at_frame, at_level}
use Rattle.tclv_vars.specs.Sound.{IsNested}

pub tied : (r : Ordering) → is_eq r ≡ true → r ≡ Equal
tied Less e = absurd (true≢false (sym e))
tied Equal e = refl
tied Greater e = absurd (true≢false (sym e))

pub same_some : {A : Type 0} (x y : A) → Some x ≡ Some y → x ≡ y
same_some x y e = ap (λ o. unwrap_or o x) e

pub none_some : {A P : Type 0} {x : A} → None ≡ Some x → P
none_some e = absurd (true≢false (sym (ap is_some e)))

-- the frames above a frame
pub above_step : (s : Scoping) (k i : ℕ) → 0 < k → above s (k - 1) (caller_of s i) ≡ above s k i
above_step s zero i h = absurd (omega (arith, h))
above_step s (suc k) i h = let e : suc k - 1 ≡ k = omega arith in ap (λ n. above s n (caller_of s i)) e

positive : (s : Scoping) (i k : ℕ) → IsNested s → suc k ≤ level_of s i → 0 < i
positive s zero k n h = let e = n.first in absurd (omega (arith, e, h))
positive s (suc i) k n h = omega arith

-- k calls above a frame the level is lower by k
pub above_level : (s : Scoping) (k i : ℕ) → IsNested s → i < length s.frames → k ≤ level_of s i → (above s k i < length s.frames) × (level_of s (above s k i) + k ≡ level_of s i)
above_level s zero i n h le = (h, omega arith)
above_level s (suc k) i n h le =
    let p = positive s i k n le in
    let c = n.earlier i p h in
    let l = n.higher i p h in
    let r = above_level s k (caller_of s i) n (omega (arith, c, h)) (omega (arith, l, le)) in
    let e = r.1 in
    (r.0, omega (arith, e, l))

-- a name of a table where one was put: that one, or one that stood there
put_cases : (ns : Named Slot) (n : Text) (s : Slot) (m : Text) (o : Slot) → get (insert ns n s) m ≡ Some o → ((m ≡ n) × (o ≡ s)) ⊎ (get ns m ≡ Some o)
put_cases ns n s m o h = elim (eq_by_cmp by_text m n) as (λ b. eq_by_cmp by_text m n ≡ b → cond b (Some s) (get ns m) ≡ Some o → ((m ≡ n) × (o ≡ s)) ⊎ (get ns m ≡ Some o)) [
  | true ↦ λ e g. inl (slice_cmp-IsAntisymmetric nat_cmp-IsAntisymmetric m n (tied (by_text m n) e), sym (same_some s o g))
  | false ↦ λ e g. inr g
] refl (sym (get-insert nat_list_cmp_total ns n s m) ∙ h)

pub name_later : (f : Frame) (fs : List Frame) (i : ℕ) (ns : Named Slot) → name_frame (f ∷ fs) (suc i) ns ≡ f ∷ name_frame fs i ns
name_later f fs i ns = elim (slice_get fs i) as (λ o. option_map_or (λ (g : Frame). slice_set (f ∷ fs) (suc i) (record g { names = ns })) o (f ∷ fs) ≡ f ∷ option_map_or (λ (g : Frame). slice_set fs i (record g { names = ns })) o fs) [
  | None ↦ refl
  | Some g ↦ refl
]

abbrev pub frame_names : List Frame → ℕ → Named Slot
frame_names fs j = option_map_or (λ (f : Frame). f.names) (slice_get fs j) empty

-- the frames where the i-th has other names: one of those, or a name that stood there
frame_cases : (fs : List Frame) (i : ℕ) (ns : Named Slot) (j : ℕ) (m : Text) (o : Slot) → get (frame_names (name_frame fs i ns) j) m ≡ Some o → ((i ≡ j) × (get ns m ≡ Some o)) ⊎ (get (frame_names fs j) m ≡ Some o)
frame_cases [] i ns j m o h = inr h
frame_cases (f ∷ fs) zero ns zero m o h = inl (refl, h)
frame_cases (f ∷ fs) zero ns (suc j) m o h = inr h
frame_cases (f ∷ fs) (suc i) ns zero m o h = inr (ap (λ gs. get (frame_names gs 0) m) (sym (name_later f fs i ns)) ∙ h)
frame_cases (f ∷ fs) (suc i) ns (suc j) m o h = elim (frame_cases fs i ns j m o (ap (λ gs. get (frame_names gs (suc j)) m) (sym (name_later f fs i ns)) ∙ h)) as (λ _. ((suc i ≡ suc j) × (get ns m ≡ Some o)) ⊎ (get (frame_names fs j) m ≡ Some o)) [
  | inl p ↦ inl (ap (λ n. suc n) p.0, p.1)
  | inr g ↦ inr g
]

-- a name where one was put: that one with its slot, or one that stood there
pub slot_cases : (s : Scoping) (h : Home) (n : Text) (put : Slot) (k : Home) (m : Text) (o : Slot) → slot_of (with_name s h n put) k m ≡ Some o → ((h ≡ k) × (m ≡ n) × (o ≡ put)) ⊎ (slot_of s k m ≡ Some o)
slot_cases s (Local i) n put (Of b) m o h = inr h
slot_cases s (Of a) n put (Local j) m o h = inr h
slot_cases s (Local i) n put (Local j) m o h = elim (frame_cases s.frames i (insert (names_in s (Local i)) n put) j m o h) as (λ _. ((Local i ≡ Local j) × (m ≡ n) × (o ≡ put)) ⊎ (slot_of s (Local j) m ≡ Some o)) [
  | inl p ↦ elim (put_cases (names_in s (Local i)) n put m o p.1) as (λ _. ((Local i ≡ Local j) × (m ≡ n) × (o ≡ put)) ⊎ (slot_of s (Local j) m ≡ Some o)) [
    | inl q ↦ inl (ap Local p.0, q.0, q.1)
    | inr g ↦ inr (ap (λ x. get (names_in s (Local x)) m) (sym p.0) ∙ g)
  ]
  | inr g ↦ inr g
]
slot_cases s (Of a) n put (Of b) m o h = elim (eq_by_cmp nat_cmp b a) as (λ t. eq_by_cmp nat_cmp b a ≡ t → get (unwrap_or (cond t (Some (insert (names_in s (Of a)) n put)) (get s.spaces b)) empty) m ≡ Some o → ((Of a ≡ Of b) × (m ≡ n) × (o ≡ put)) ⊎ (slot_of s (Of b) m ≡ Some o)) [
  | true ↦ λ e g. let same = nat_cmp-IsAntisymmetric b a (tied (nat_cmp b a) e) in elim (put_cases (names_in s (Of a)) n put m o g) as (λ _. ((Of a ≡ Of b) × (m ≡ n) × (o ≡ put)) ⊎ (slot_of s (Of b) m ≡ Some o)) [
    | inl q ↦ inl (ap Of (sym same), q.0, q.1)
    | inr r ↦ inr (ap (λ x. get (names_in s (Of x)) m) same ∙ r)
  ]
  | false ↦ λ e g. inr g
] refl (ap (λ x. get (unwrap_or x empty) m) (sym (get-insert nat_cmp_total s.spaces a (insert (names_in s (Of a)) n put) b)) ∙ h)

-- the names of the frames where one more was pushed
pub frame_end : (fs : List Frame) (f : Frame) (j : ℕ) (m : Text) (o : Slot) → get (frame_names (fs ++ f ∷ []) j) m ≡ Some o → (get f.names m ≡ Some o) ⊎ (get (frame_names fs j) m ≡ Some o)
frame_end [] f zero m o h = inl h
frame_end [] f (suc j) m o h = inr h
frame_end (g ∷ fs) f zero m o h = inr h
frame_end (g ∷ fs) f (suc j) m o h = frame_end fs f j m o h

pub length-name_frame : (fs : List Frame) (i : ℕ) (ns : Named Slot) → length (name_frame fs i ns) ≡ length fs
length-name_frame [] i ns = refl
length-name_frame (f ∷ fs) zero ns = refl
length-name_frame (f ∷ fs) (suc i) ns = ap length (name_later f fs i ns) ∙ ap suc (length-name_frame fs i ns)

pub length-pushed : (fs : List Frame) (f : Frame) → length (fs ++ f ∷ []) ≡ length fs + 1
length-pushed [] f = refl
length-pushed (g ∷ fs) f = let e = length-pushed fs f in omega (arith, e)

-- what is read of a frame, beside its names
module _ {A : Type 0} (f : Frame → A) (d : A) where
  abbrev pub read_at : List Frame → ℕ → A
  read_at fs i = option_map_or f (slice_get fs i) d

  pub read_named : ((g : Frame) (ns : Named Slot) → f (record g { names = ns }) ≡ f g) → (fs : List Frame) (i : ℕ) (ns : Named Slot) (j : ℕ) → read_at (name_frame fs i ns) j ≡ read_at fs j
  read_named same [] i ns j = refl
  read_named same (g ∷ fs) zero ns zero = same g ns
  read_named same (g ∷ fs) zero ns (suc j) = refl
  read_named same (g ∷ fs) (suc i) ns zero = ap (λ hs. read_at hs 0) (name_later g fs i ns)
  read_named same (g ∷ fs) (suc i) ns (suc j) = ap (λ hs. read_at hs (suc j)) (name_later g fs i ns) ∙ read_named same fs i ns j

  pub read_pushed : (fs : List Frame) (g : Frame) (j : ℕ) → j < length fs → read_at (fs ++ g ∷ []) j ≡ read_at fs j
  read_pushed [] g j h = absurd (omega (arith, h))
  read_pushed (k ∷ fs) g zero h = refl
  read_pushed (k ∷ fs) g (suc j) h = read_pushed fs g j (omega (arith, h))

  pub read_last : (fs : List Frame) (g : Frame) → read_at (fs ++ g ∷ []) (length fs) ≡ f g
  read_last [] g = refl
  read_last (k ∷ fs) g = read_last fs g

-- a name that is put changes no frame but for its names
module _ (s : Scoping) (h : Home) (ns : Named Slot) where
  pub length-with_names : length (with_names s h ns).frames ≡ length s.frames
  length-with_names = elim h as (λ h. length (with_names s h ns).frames ≡ length s.frames) [ Local i ↦ length-name_frame s.frames i ns | Of n ↦ refl ]

  pub current-with_names : (with_names s h ns).current ≡ s.current
  current-with_names = elim h as (λ h. (with_names s h ns).current ≡ s.current) [ Local i ↦ refl | Of n ↦ refl ]

  read_with_names : {A : Type 0} (f : Frame → A) (d : A) → ((g : Frame) (ns : Named Slot) → f (record g { names = ns }) ≡ f g) → (j : ℕ) → read_at f d (with_names s h ns).frames j ≡ read_at f d s.frames j
  read_with_names f d same j = elim h as (λ h. read_at f d (with_names s h ns).frames j ≡ read_at f d s.frames j) [ Local i ↦ read_named f d same s.frames i ns j | Of n ↦ refl ]

  pub home_of-with_names : (j : ℕ) → home_of (with_names s h ns) j ≡ home_of s j
  home_of-with_names j = read_with_names (λ (f : Frame). if f.local then Local j else Of f.space) (Local j) (λ g ms. refl) j

  pub home-with_names : (at : Place) → home (with_names s h ns) at ≡ home s at
  home-with_names place.Frame = ap (home_of (with_names s h ns)) current-with_names ∙ home_of-with_names s.current
  home-with_names (place.Space n) = refl

  pub IsNested-with_names : IsNested s → IsNested (with_names s h ns)
  IsNested-with_names n =
      let levels = read_with_names (λ (f : Frame). f.level) 0 (λ g ms. refl) in
      let callers = read_with_names (λ (f : Frame). f.caller) 0 (λ g ms. refl) in
      let within : (i : ℕ) → i < length (with_names s h ns).frames → i < length s.frames = λ i b. subst (λ k. i < k) length-with_names b in
      record {
        current = let c = n.current in let e = current-with_names in let l = length-with_names in omega (arith, c, e, l);
        first = levels 0 ∙ n.first;
        global = home_of-with_names 0 ∙ n.global;
        earlier = λ i p b. subst (λ k. k < i) (sym (callers i)) (n.earlier i p (within i b));
        higher = λ i p b. levels i ∙ n.higher i p (within i b) ∙ ap (λ k. k + 1) (sym (levels (caller_of s i)) ∙ ap (level_of (with_names s h ns)) (sym (callers i)));
      }

pub IsNested-at_frame : (s : Scoping) (i : ℕ) → i < length s.frames → IsNested s → IsNested (at_frame s i)
IsNested-at_frame s i b n = record { current = b; first = n.first; global = n.global; earlier = n.earlier; higher = n.higher }

before_last : (i k : ℕ) → i < k + 1 → (i < k) ⊎ (i ≡ k)
before_last i k h = elim (nat_cmp_cases i k) as (λ _. (i < k) ⊎ (i ≡ k)) [ inl a ↦ inl a | inr b ↦ inr (omega (arith, b, h)) ]
  where
    nat_cmp_cases : (i k : ℕ) → (i < k) ⊎ (k ≤ i)
    nat_cmp_cases zero zero = inr (omega arith)
    nat_cmp_cases zero (suc k) = inl (omega arith)
    nat_cmp_cases (suc i) zero = inr (omega arith)
    nat_cmp_cases (suc i) (suc k) = elim (nat_cmp_cases i k) as (λ _. (suc i < suc k) ⊎ (suc k ≤ suc i)) [ inl a ↦ inl (omega (arith, a)) | inr b ↦ inr (omega (arith, b)) ]

pub IsNested-pushed : (s : Scoping) (space : ℕ) (local : Bool) → IsNested s → IsNested (pushed s space local)
IsNested-pushed s space local n =
    let new : Frame = record { level = level_of s s.current + 1; caller = s.current; space = space; local = local; names = empty } in
    let o : Scoping = pushed s space local in
    let l = length-pushed s.frames new in
    let c = n.current in
    let levels = read_pushed (λ (f : Frame). f.level) 0 s.frames new in
    let callers = read_pushed (λ (f : Frame). f.caller) 0 s.frames new in
    let level = read_last (λ (f : Frame). f.level) 0 s.frames new in
    let caller = read_last (λ (f : Frame). f.caller) 0 s.frames new in
    let there : 0 < length s.frames = omega (arith, c) in
    record {
      current = omega (arith, l);
      first = levels 0 there ∙ n.first;
      global = read_pushed (λ (f : Frame). if f.local then Local 0 else Of f.space) (Local 0) s.frames new 0 there ∙ n.global;
      earlier = λ i p b. elim (before_last i (length s.frames) (omega (arith, b, l))) as (λ _. caller_of o i < i) [
        | inl a ↦ subst (λ k. k < i) (sym (callers i a)) (n.earlier i p a)
        | inr e ↦ let q = ap (caller_of o) e ∙ caller in omega (arith, q, c, e)
      ];
      higher = λ i p b. elim (before_last i (length s.frames) (omega (arith, b, l))) as (λ _. level_of o i ≡ level_of o (caller_of o i) + 1) [
        | inl a ↦ let d = n.earlier i p a in levels i a ∙ n.higher i p a ∙ ap (λ k. k + 1) (sym (levels (caller_of s i) (omega (arith, d, a))) ∙ ap (level_of o) (sym (callers i a)))
        | inr e ↦ ap (level_of o) e ∙ level ∙ ap (λ k. k + 1) (sym (levels s.current c) ∙ ap (level_of o) (sym (ap (caller_of o) e ∙ caller)))
      ];
    }

-- the level that was asked for, where a call answered
module _ (s : Scoping) (l : ℕ) (nested : IsNested s) where
  level_by : (b : Bool) → nat_lt (level_of s s.current) l ≡ b → (r : Result ℕ VarFault) (new : Scoping) → r ≡ (if b then Err NoLevel else Ok s.current)
      → new ≡ (if b then s else at_frame s (above s (level_of s s.current - l) s.current)) → OnOk r (level_of new new.current ≡ l)
  level_by true e r new answer after = subst (λ x. OnOk x (level_of new new.current ≡ l)) (sym answer) tt
  level_by false e r new answer after =
      let a = (above_level s (level_of s s.current - l) s.current nested nested.current (omega arith)).1 in
      let h : l ≤ level_of s s.current = ltb-false (level_of s s.current) l e in
      let q : level_of s (above s (level_of s s.current - l) s.current) ≡ l = omega (arith, a, h) in
      subst (λ x. OnOk x (level_of new new.current ≡ l)) (sym answer) (ap (λ (o : Scoping). level_of o o.current) after ∙ q)

  pub level_found : (r : Result ℕ VarFault) (new : Scoping) → r ≡ (if nat_lt (level_of s s.current) l then Err NoLevel else Ok s.current) → new ≡ at_level s l → OnOk r (level_of new new.current ≡ l)
  level_found = level_by (nat_lt (level_of s s.current) l) refl

  back_by : (b : Bool) → (r : Result ℕ VarFault) (new : Scoping) → r ≡ (if b then Err NoLevel else Ok s.current)
      → new ≡ (if b then s else at_frame s (above s (level_of s s.current - l) s.current)) → IfOk r (λ frame. frame < length new.frames)
  back_by true r new answer after = subst (λ x. IfOk x (λ frame. frame < length new.frames)) (sym answer) tt
  back_by false r new answer after = subst (λ x. IfOk x (λ frame. frame < length new.frames)) (sym answer) (subst (λ (o : Scoping). s.current < length o.frames) (sym after) nested.current)

  pub level_back : (r : Result ℕ VarFault) (new : Scoping) → r ≡ (if nat_lt (level_of s s.current) l then Err NoLevel else Ok s.current) → new ≡ at_level s l → IfOk r (λ frame. frame < length new.frames)
  level_back = back_by (nat_lt (level_of s s.current) l)

length_taken : (fs : List Frame) (k : ℕ) → k ≤ length fs → length (take k fs) ≡ k
length_taken [] zero h = refl
length_taken [] (suc k) h = absurd (omega (arith, h))
length_taken (f ∷ fs) zero h = refl
length_taken (f ∷ fs) (suc k) h = ap suc (length_taken fs k (omega (arith, h)))

read_taken : {A : Type 0} (f : Frame → A) (d : A) (fs : List Frame) (k j : ℕ) → j < k → read_at f d (take k fs) j ≡ read_at f d fs j
read_taken f d [] zero j h = refl
read_taken f d [] (suc k) j h = refl
read_taken f d (g ∷ fs) zero j h = absurd (omega (arith, h))
read_taken f d (g ∷ fs) (suc k) zero h = refl
read_taken f d (g ∷ fs) (suc k) (suc j) h = read_taken f d fs k j (omega (arith, h))

read_there : {A : Type 0} (f : Frame → A) (d e : A) (fs : List Frame) (j : ℕ) → j < length fs → read_at f d fs j ≡ read_at f e fs j
read_there f d e [] j h = absurd (omega (arith, h))
read_there f d e (g ∷ fs) zero h = refl
read_there f d e (g ∷ fs) (suc j) h = read_there f d e fs j (omega (arith, h))

-- the names of the frames where the last ones were taken off
pub frame_taken : (fs : List Frame) (k j : ℕ) (m : Text) (o : Slot) → get (frame_names (take k fs) j) m ≡ Some o → get (frame_names fs j) m ≡ Some o
frame_taken [] zero j m o h = h
frame_taken [] (suc k) j m o h = h
frame_taken (f ∷ fs) zero j m o h = none_some (sym (get-empty by_text m) ∙ h)
frame_taken (f ∷ fs) (suc k) zero m o h = h
frame_taken (f ∷ fs) (suc k) (suc j) m o h = frame_taken fs k j m o h

pub IsNested-popped : (s : Scoping) → s.current + 1 ≡ length s.frames → 0 < s.current → IsNested s → IsNested (popped s)
IsNested-popped s last inner n =
    let o : Scoping = popped s in
    let k = length s.frames - 1 in
    let l : length o.frames ≡ k = length_taken s.frames k (omega arith) in
    let e : k ≡ s.current = omega (arith, last) in
    let levels = read_taken (λ (f : Frame). f.level) 0 s.frames k in
    let callers = read_taken (λ (f : Frame). f.caller) 0 s.frames k in
    let caller : o.current ≡ caller_of s k = read_there (λ (f : Frame). f.caller) s.current 0 s.frames k (omega (arith, e, last)) in
    let below : caller_of s k < k = n.earlier k (omega (arith, e, inner)) (omega (arith, e, last)) in
    let within : (i : ℕ) → i < length o.frames → i < k = λ i b. omega (arith, b, l) in
    let more : (i : ℕ) → i < k → i < length s.frames = λ i b. omega (arith, b, e, last) in
    record {
      current = omega (arith, caller, below, l);
      first = levels 0 (omega (arith, e, inner)) ∙ n.first;
      global = read_taken (λ (f : Frame). if f.local then Local 0 else Of f.space) (Local 0) s.frames k 0 (omega (arith, e, inner)) ∙ n.global;
      earlier = λ i p b. subst (λ c. c < i) (sym (callers i (within i b))) (n.earlier i p (more i (within i b)));
      higher = λ i p b.
          let a = within i b in
          let d = n.earlier i p (more i a) in
          levels i a ∙ n.higher i p (more i a) ∙ ap (λ c. c + 1) (sym (levels (caller_of s i) (omega (arith, d, a))) ∙ ap (level_of o) (sym (callers i a)));
    }
