-- Files as a list of names with their bytes, of which the first of one name counts.
use Rattle.std.proofs.Common.{◌≡◌, ◌≢◌, ℕ, zero, suc, ◌<◌, Bool, true, false, cond, List, [], ◌∷◌, length, get_or, Some, None, sym, ◌∙◌, ap, refl, subst, arith}
use Rattle.std.specs.Prelude.{string_bytes, String, Vec, nat_eq, ◌++◌, unwrap_or, Result, Ok, Err, OnErr}
use Rattle.std.specs.declared.alloc.Global.{Global}
use Rattle.std.specs.declared.cmp.Ordering.TheVariants.{Less, Equal, Greater}
use Rattle.std.specs.Ordering.{nat_cmp, eq_by_cmp, is_eq}
use Rattle.std.specs.Cmp.{eq_by_cmp_equiv}
use Rattle.std.specs.Cmp.Lexicographic.{slice_cmp, texts_ties, nat_list_cmp_total}
use Rattle.std.specs.FinMap as map
use Rattle.std.specs.FinMap.{get-insert, get-empty, same_map, slice_cmp-IsAntisymmetric, nat_cmp-IsAntisymmetric}
use Rattle.std.proofs.Math.ListN.{set}
use lib.Pointwise.{pointwise}
use Rattle.tclv_io.specs.World.{Files, Out, add, made}
use Rattle.tclv_io.specs.World.Target.{File}
use Rattle.tclv_io.specs.declared.outside.Mode.TheVariants.{Append}
use Rattle.tclv_io.specs.Held.{files_of, HasName}

-- a name with its bytes
abbrev pub Entry : Type 0
Entry = String Global × Vec ℕ Global

same_names : (q k : List ℕ) → slice_cmp nat_cmp q k ≡ Equal → q ≡ k
same_names = slice_cmp-IsAntisymmetric nat_cmp-IsAntisymmetric

same : (q k : List ℕ) → eq_by_cmp (slice_cmp nat_cmp) q k ≡ true → q ≡ k
same q k = elim (slice_cmp nat_cmp q k) as (λ r. slice_cmp nat_cmp q k ≡ r → is_eq r ≡ true → q ≡ k) [
  | Less ↦ λ e t. cc
  | Equal ↦ λ e t. same_names q k e
  | Greater ↦ λ e t. cc
] refl

itself : (q k : List ℕ) → q ≡ k → eq_by_cmp (slice_cmp nat_cmp) q k ≡ true
itself q k e = subst (λ n. eq_by_cmp (slice_cmp nat_cmp) q n ≡ true) e ((eq_by_cmp_equiv nat_list_cmp_total).refl q)

apart : (q k : List ℕ) → q ≢ k → eq_by_cmp (slice_cmp nat_cmp) q k ≡ false
apart q k ne = elim (slice_cmp nat_cmp q k) as (λ r. slice_cmp nat_cmp q k ≡ r → is_eq r ≡ false) [
  | Less ↦ λ e. refl
  | Equal ↦ λ e. absurd (ne (same_names q k e))
  | Greater ↦ λ e. refl
] refl

-- the test that the code makes is that of the map
pub tested : (key name : List ℕ) → pointwise nat_eq key name ≡ eq_by_cmp (slice_cmp nat_cmp) key name
tested key name = texts_ties key name

pub test_same : (key name : List ℕ) → pointwise nat_eq key name ≡ true → key ≡ name
test_same key name e = same key name (sym (tested key name) ∙ e)

pub test_apart : (key name : List ℕ) → pointwise nat_eq key name ≡ false → key ≢ name
test_apart key name e is = cc (tested key name, e, itself key name is)

-- a test that is repeated: the inner branch is never reached
shadowed : {A : Type 0} (b : Bool) (x y z : A) → cond b x z ≡ cond b x (cond b y z)
shadowed true x y z = refl
shadowed false x y z = refl

-- two tests that don't hold together
swapped : {A : Type 0} (a b : Bool) (x y z : A) → (a ≡ true → b ≡ true → ⊥) → cond a x (cond b y z) ≡ cond b y (cond a x z)
swapped true true x y z h = absurd (h refl refl)
swapped true false x y z h = refl
swapped false b x y z h = refl

at_front : (f : Entry) (fs : List Entry) (q : List ℕ) → map.get (files_of (f ∷ fs)) q ≡ cond (eq_by_cmp (slice_cmp nat_cmp) q (string_bytes f.0)) (Some f.1.items) (map.get (files_of fs) q)
at_front f fs q = get-insert nat_list_cmp_total (files_of fs) (string_bytes f.0) f.1.items q

pub absent : (fs : List Entry) (name : List ℕ) → ((d : Entry) (k : ℕ) → k < length fs → string_bytes (get_or fs k d).0 ≢ name) → map.get (files_of fs) name ≡ None
absent [] name h = get-empty (slice_cmp nat_cmp) name
absent (f ∷ fs) name h =
    at_front f fs name
    ∙ ap (λ b. cond b (Some f.1.items) (map.get (files_of fs) name)) (apart name (string_bytes f.0) (λ e. h f 0 (omega arith) (sym e)))
    ∙ absent fs name (λ d k lt. h d (suc k) (omega arith))

found_from : (fs : List Entry) (i : ℕ) (name : List ℕ) → i < length fs → ((d : Entry) → string_bytes (get_or fs i d).0 ≡ name) → ((d : Entry) (k : ℕ) → k < i → string_bytes (get_or fs k d).0 ≢ name) → (d : Entry) → map.get (files_of fs) name ≡ Some (get_or fs i d).1.items
found_from [] i name lt here before d = absurd (omega arith)
found_from (f ∷ fs) zero name lt here before d =
    at_front f fs name ∙ ap (λ b. cond b (Some f.1.items) (map.get (files_of fs) name)) (itself name (string_bytes f.0) (sym (here f)))
found_from (f ∷ fs) (suc i) name lt here before d =
    at_front f fs name
    ∙ ap (λ b. cond b (Some f.1.items) (map.get (files_of fs) name)) (apart name (string_bytes f.0) (λ e. before f 0 (omega arith) (sym e)))
    ∙ found_from fs i name (omega arith) here (λ d k h. before d (suc k) (omega arith)) d

-- what the first entry of a name holds
pub found : (fs : List Entry) (i : ℕ) (name : List ℕ) → HasName fs i name → (d : Entry) → map.get (files_of fs) name ≡ Some (get_or fs i d).1.items
found fs i name h = found_from fs i name h.within h.here h.before

get-set : (fs : List Entry) (i : ℕ) (name : List ℕ) (f : Entry) → i < length fs → ((d : Entry) → string_bytes (get_or fs i d).0 ≡ name) → ((d : Entry) (k : ℕ) → k < i → string_bytes (get_or fs k d).0 ≢ name) → string_bytes f.0 ≡ name → (q : List ℕ) → map.get (files_of (set fs i f)) q ≡ cond (eq_by_cmp (slice_cmp nat_cmp) q name) (Some f.1.items) (map.get (files_of fs) q)
get-set [] i name f lt here before is q = absurd (omega arith)
get-set (x ∷ xs) zero name f lt here before is q =
    at_front f xs q
    ∙ ap (λ m. cond (eq_by_cmp (slice_cmp nat_cmp) q m) (Some f.1.items) (map.get (files_of xs) q)) is
    ∙ shadowed (eq_by_cmp (slice_cmp nat_cmp) q name) (Some f.1.items) (Some x.1.items) (map.get (files_of xs) q)
    ∙ ap (λ m. cond (eq_by_cmp (slice_cmp nat_cmp) q name) (Some f.1.items) (cond (eq_by_cmp (slice_cmp nat_cmp) q m) (Some x.1.items) (map.get (files_of xs) q))) (sym (here x))
    ∙ ap (cond (eq_by_cmp (slice_cmp nat_cmp) q name) (Some f.1.items)) (sym (at_front x xs q))
get-set (x ∷ xs) (suc i) name f lt here before is q =
    at_front x (set xs i f) q
    ∙ ap (cond (eq_by_cmp (slice_cmp nat_cmp) q (string_bytes x.0)) (Some x.1.items)) (get-set xs i name f (omega arith) here (λ d k h. before d (suc k) (omega arith)) is q)
    ∙ swapped (eq_by_cmp (slice_cmp nat_cmp) q (string_bytes x.0)) (eq_by_cmp (slice_cmp nat_cmp) q name) (Some x.1.items) (Some f.1.items) (map.get (files_of xs) q) (λ a b. before x 0 (omega arith) (sym (same q (string_bytes x.0) a) ∙ same q name b))
    ∙ ap (cond (eq_by_cmp (slice_cmp nat_cmp) q name) (Some f.1.items)) (sym (at_front x xs q))

-- the first entry of a name changes
pub files_of-set : (fs : List Entry) (i : ℕ) (name : List ℕ) (f : Entry) → HasName fs i name → string_bytes f.0 ≡ name → files_of (set fs i f) ≡ map.insert (files_of fs) name f.1.items
files_of-set fs i name f h is = same_map nat_list_cmp_total (slice_cmp-IsAntisymmetric nat_cmp-IsAntisymmetric) _ _ (λ q. get-set fs i name f h.within h.here h.before is q ∙ sym (get-insert nat_list_cmp_total (files_of fs) name f.1.items q))

get-insert_same : (fs : Files) (name bytes : List ℕ) → map.get fs name ≡ Some bytes → (q : List ℕ) (b : Bool) → eq_by_cmp (slice_cmp nat_cmp) q name ≡ b → cond b (Some bytes) (map.get fs q) ≡ map.get fs q
get-insert_same fs name bytes is q true e = sym is ∙ ap (map.get fs) (sym (same q name e))
get-insert_same fs name bytes is q false e = refl

-- a file is given what it has
pub insert_same : (fs : Files) (name bytes : List ℕ) → map.get fs name ≡ Some bytes → map.insert fs name bytes ≡ fs
insert_same fs name bytes is = same_map nat_list_cmp_total (slice_cmp-IsAntisymmetric nat_cmp-IsAntisymmetric) _ _ (λ q. get-insert nat_list_cmp_total fs name bytes q ∙ get-insert_same fs name bytes is q _ refl)

-- what holds whatever the answer
pub on_err : {T E : Type 0} (r : Result T E) (P : Type 0) → P → OnErr r P
on_err (Ok x) P p = tt
on_err (Err e) P p = p

-- an entry is put back as it was
pub put_back : (fs : List Entry) (i : ℕ) (name : List ℕ) (o : Entry) (bytes : Vec ℕ Global) → HasName fs i name → o ≡ get_or fs i o → bytes.items ≡ o.1.items → files_of (set fs i (o.0, bytes)) ≡ files_of fs
put_back fs i name o bytes h is kept =
    files_of-set fs i name (o.0, bytes) h (ap (λ f. string_bytes f.0) is ∙ h.here o)
    ∙ insert_same (files_of fs) name bytes.items (found fs i name h o ∙ ap (λ f. Some f.1.items) (sym is) ∙ ap Some (sym kept))

-- an entry is made empty
pub emptied : (fs : List Entry) (i : ℕ) (name : List ℕ) (o : Entry) (bytes : Vec ℕ Global) → HasName fs i name → o ≡ get_or fs i o → bytes.items ≡ [] → files_of (set fs i (o.0, bytes)) ≡ map.insert (files_of fs) name []
emptied fs i name o bytes h is none =
    files_of-set fs i name (o.0, bytes) h (ap (λ f. string_bytes f.0) is ∙ h.here o) ∙ ap (map.insert (files_of fs) name) none

add_there : (x : Out) (name piece old : List ℕ) → map.get x.files name ≡ Some old → add x (File name) piece ≡ record x { files = map.insert x.files name (old ++ piece) }
add_there x name piece old e = rw (e, add)

-- a piece is added to an entry
pub grown : (fs : List Entry) (i : ℕ) (name piece : List ℕ) (o : Entry) (bytes : Vec ℕ Global) → HasName fs i name → o ≡ get_or fs i o → bytes.items ≡ o.1.items ++ piece → (x : Out) → record x { files = files_of (set fs i (o.0, bytes)) } ≡ add (record x { files = files_of fs }) (File name) piece
grown fs i name piece o bytes h is more x =
    ap (λ m. record x { files = m }) (files_of-set fs i name (o.0, bytes) h (ap (λ f. string_bytes f.0) is ∙ h.here o) ∙ ap (map.insert (files_of fs) name) more)
    ∙ sym (add_there (record x { files = files_of fs }) name piece o.1.items (found fs i name h o ∙ ap (λ f. Some f.1.items) (sym is)))

-- a file that is there is kept for what is added
pub kept : (x : Out) (name bytes : List ℕ) → map.get x.files name ≡ Some bytes → x ≡ made Append name x
kept x name bytes is =
    ap (λ m. record x { files = m }) (sym (ap (λ g. map.insert x.files name (unwrap_or g [])) is ∙ insert_same x.files name bytes is))
