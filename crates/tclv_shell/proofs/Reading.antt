-- A file that is read from its start: the bytes so far and what is left.
use Rattle.std.proofs.Common.{◌≡◌, ℕ, ◌<◌, ◌≤◌, ◌^◌, Bool, true, false, cond, List, [], ◌++◌, length, take, drop, sym, ◌∙◌, ap, refl, subst, arith, append_assoc, length-append, Some, None, Ok}
use Rattle.std.specs.Prelude.{Option, IsTrue, is_some, nat_eq}
use Rattle.std.proofs.lemmas.List.{append-nil, drop-drop, take-append-drop, drop_all, take-append-le, take-take}
use Rattle.std.specs.FinMap as map
use Rattle.std.specs.FinMap.{get-insert, get-remove, get_tied, same_map, nat_cmp-IsAntisymmetric}
use Rattle.std.specs.Cmp.{nat_cmp_total, nat_cmp_is}
use Rattle.std.specs.Ordering.{nat_cmp, eq_by_cmp, is_eq}
use Rattle.std.specs.declared.cmp.Ordering.{Ordering}
use Rattle.std.specs.declared.cmp.Ordering.TheVariants.{Less, Equal, Greater}
use Rattle.tclv_io.specs.World.{World, Opened, can_read, can_close, left, taken_from, read_on, bytes_at, ReadAnswers, after_read, closed, OpenAnswers, WhereTold}
use Rattle.tclv_io.specs.Events.{shown}
use Rattle.tclv_io.specs.declared.outside.Failed.{Failed}
use Rattle.std.specs.Prelude.{Result, Err, unwrap_or}
use Rattle.std.specs.Option.{option_map}
use Rattle.std.specs.Str.{IsUtf8, is_utf8}
use Rattle.std.proofs.lemmas.Str.{IsUtf8-from_is_utf8}
use Rattle.tclv_shell.specs.Halts.{Seen, SeesSame}
use Rattle.tclv_shell.specs.Loaded.{IsWhole, Judged, Found}
use Rattle.tclv_shell.specs.declared.script_files.Loaded.{Loaded}
use Rattle.tclv_shell.specs.declared.script_files.Loaded.TheVariants.{Missing, TooLarge, NotUtf8, Text}
use Rattle.std.proofs.lemmas.Bool.Decides.{nat_tests}
use Rattle.tclv_io.specs.declared.outside.Mode.TheVariants.{Read}
use Rattle.tclv_io.specs.World.{after_open}

pub record Reading (w v : World) (n : ℕ) (bytes : List ℕ) : Type 0 where
  pub can : IsTrue (can_read v n)
  pub close : IsTrue (can_close w n) → IsTrue (can_close v n)
  pub left : bytes ++ left v n ≡ left w n
  pub number : 3 ≤ n
  pub others : closed n v ≡ closed n w

pub started : (w : World) (n : ℕ) → 3 ≤ n → IsTrue (can_read w n) → Reading w w n []
started w n number can = record { can = can; close = λ h. h; left = refl; number = number; others = refl }

pub get-insert_same : (m : map.FinMap nat_cmp Opened) (n : ℕ) (o : Opened) → map.get (map.insert m n o) n ≡ Some o
get-insert_same m n o = get-insert nat_cmp_total m n o n ∙ ap (λ b. cond b (Some o) (map.get m n)) (ap is_eq (sym (nat_cmp_is n n Equal refl)))

not_zero : (n : ℕ) → 3 ≤ n → nat_eq n 0 ≡ false
not_zero n h = grind (arith, nat_tests)

-- to remove what was put
remove_put : (b : Bool) (here there : Option Opened) → cond b None (cond b here there) ≡ cond b None there
remove_put true here there = refl
remove_put false here there = refl

remove-insert : (m : map.FinMap nat_cmp Opened) (n : ℕ) (o : Opened) → map.remove (map.insert m n o) n ≡ map.remove m n
remove-insert m n o = same_map nat_cmp_total nat_cmp-IsAntisymmetric _ _ (λ q.
    get-remove nat_cmp_total (map.insert m n o) n q
    ∙ ap (cond (eq_by_cmp nat_cmp q n) None) (get-insert nat_cmp_total m n o q)
    ∙ remove_put (eq_by_cmp nat_cmp q n) (Some o) (map.get m q)
    ∙ sym (get-remove nat_cmp_total m n q))

tied : (r : Ordering) → is_eq r ≡ true → r ≡ Equal
tied Less e = cc
tied Equal e = refl
tied Greater e = cc

absent_at : (m : map.FinMap nat_cmp Opened) (n q : ℕ) → map.get m n ≡ None → (b : Bool) → eq_by_cmp nat_cmp q n ≡ b → cond b None (map.get m q) ≡ map.get m q
absent_at m n q none true t = sym none ∙ get_tied nat_cmp_total m q n (tied _ t)
absent_at m n q none false t = refl

remove_absent : (m : map.FinMap nat_cmp Opened) (n : ℕ) → map.get m n ≡ None → map.remove m n ≡ m
remove_absent m n none = same_map nat_cmp_total nat_cmp-IsAntisymmetric _ _ (λ q. get-remove nat_cmp_total m n q ∙ absent_at m n q none _ refl)

-- apart from its number a read changes nothing
closed_same : (v : World) (n k : ℕ) → nat_eq n 0 ≡ false → (x : Option Opened) → map.get v.opened n ≡ x → closed n (taken_from n k v) ≡ closed n v
closed_same v n k apart None f = rw (apart, f)
closed_same v n k apart (Some o) f = rw (apart, f) (ap (λ m. record v { opened = m }) (remove-insert v.opened n (read_on k o)))

-- a file that was opened under a new number, and closed
pub closed_opened : (w : World) (name : List ℕ) (n : ℕ) → map.get w.opened n ≡ None → closed n (after_open name Read (Ok n) w) ≡ w
closed_opened w name n none = ap (λ m. record w { opened = m }) (remove-insert w.opened n _ ∙ remove_absent w.opened n none)

-- what a read leaves of its number
record Left (v : World) (n k : ℕ) (u : World) : Type 0 where
  bytes : left u n ≡ drop k (left v n)
  can : IsTrue (can_read v n) → IsTrue (can_read u n)
  close : IsTrue (can_close v n) → IsTrue (can_close u n)
  out : u.out ≡ v.out

left_behind : (v : World) (n k : ℕ) (b : Bool) → nat_eq n 0 ≡ b → (x : Option Opened) → map.get v.opened n ≡ x → Left v n k (taken_from n k v)
left_behind v n k true e x f = rw e (record { bytes = rw e; can = λ h. rw e refl; close = λ h. h; out = refl })
left_behind v n k false e None f = rw (e, f) (record { bytes = rw (e, f) (sym (drop_all k [] (omega arith))); can = λ h. h; close = λ h. h; out = refl })
left_behind v n k false e (Some o) f =
    let here = get-insert_same v.opened n (read_on k o) in
    rw (e, f) (record { bytes = rw (e, here, f) (sym (drop-drop k o.taken (bytes_at v.out.files o.name))); can = λ h. rw (e, here) (rw (e, f) at h); close = λ h. rw here refl; out = refl })

pub goes_on : (w v : World) (n k : ℕ) (bytes into : List ℕ) → Reading w v n bytes → ReadAnswers (left v n) into (Ok k) → Reading w (taken_from n k v) n (bytes ++ take k into)
goes_on w v n k bytes into r answer =
    let behind = left_behind v n k _ refl _ refl in
    record {
      can = behind.can r.can;
      close = λ h. behind.close (r.close h);
      left = append_assoc bytes (take k into) (left (taken_from n k v) n)
          ∙ ap (λ xs. bytes ++ xs) (ap (λ xs. xs ++ left (taken_from n k v) n) answer.0 ∙ ap (λ xs. take k (left v n) ++ xs) behind.bytes ∙ take-append-drop k (left v n))
          ∙ r.left;
      number = r.number;
      others = closed_same v n k (not_zero n r.number) _ refl ∙ r.others;
    }

-- nothing is left
pub ended : (w v : World) (n k : ℕ) (bytes into : List ℕ) → Reading w v n bytes → ReadAnswers (left v n) into (Ok k) → k ≡ 0 → 0 < length into → IsWhole (left w n) bytes
ended w v n k bytes into r answer zero some =
    let whole : bytes ≡ left w n = sym (append-nil bytes) ∙ ap (λ xs. bytes ++ xs) (sym (answer.2 some zero)) ∙ r.left in
    record { all = λ h. whole; too_large = λ h. omega (arith, ap length whole) }

pub too_many : (w v : World) (n : ℕ) (bytes : List ℕ) → Reading w v n bytes → 2 ^ 30 < length bytes → IsWhole (left w n) bytes
too_many w v n bytes r more = record { all = λ h. absurd (omega arith); too_large = λ h. omega (arith, ap length r.left, length-append bytes (left v n)) }

pub told_on : (f : World → World) (t0 t : Option World) (v : World) → t ≡ option_map f t0 → t0 ≡ Some v → t ≡ Some (f v)
told_on f t0 t v e s = e ∙ ap (option_map f) s

pub some_same : (v w : World) → Some v ≡ Some w → v ≡ w
some_same v w e = ap (λ o. unwrap_or o v) e

pub was_told : (t0 t : Option World) (v : World) → shown t ≡ shown t0 → t ≡ Some v → (w : World) × (t0 ≡ Some w)
was_told None t v e s = let bad = sym (ap shown s) ∙ e in cc
was_told (Some w) t v e s = (w, refl)

-- a world that is told after a step was told before it
pub opened : (t0 t : Option World) (name : List ℕ) (n : ℕ) (v : World) → t ≡ option_map (after_open name Read (Ok n)) t0 → t ≡ Some v → (w : World) × (t0 ≡ Some w) × (after_open name Read (Ok n) w ≡ v)
opened None t name n v e s = let bad = sym e ∙ s in cc
opened (Some w) t name n v e s = (w, refl, some_same (after_open name Read (Ok n) w) v (sym e ∙ s))

-- a read changes nothing that others see
read_shows : (n : ℕ) (r : Result ℕ Failed) (t0 : Option World) → shown (option_map (after_read n r) t0) ≡ shown t0
read_shows n r None = refl
read_shows n (Ok k) (Some v) = ap Some (left_behind v n k _ refl _ refl).out
read_shows n (Err e) (Some v) = refl

pub shown_read : (n : ℕ) (r : Result ℕ Failed) (t0 t : Option World) → t ≡ option_map (after_read n r) t0 → shown t ≡ shown t0
shown_read n r t0 t e = ap shown e ∙ read_shows n r t0

pub still_open : (w v u : World) (n k : ℕ) (bytes : List ℕ) → Reading w v n bytes → IsTrue (can_close w n) → taken_from n k v ≡ u → IsTrue (can_close u n)
still_open w v u n k bytes r h is = subst (λ u. IsTrue (can_close u n)) is ((left_behind v n k _ refl _ refl).close (r.close h))

-- what stands at the front of a buffer that was written through a slice
pub written_back : (into items : List ℕ) (len count : ℕ) → count ≤ length into → count ≤ len → take count (take len (into ++ drop (length into) items)) ≡ take count into
written_back into items len count fits below = take-take count len (into ++ drop (length into) items) below ∙ take-append-le count into (drop (length into) items) fits

-- a file that was just opened
pub record Fresh (w : World) (name : List ℕ) (n : ℕ) (u : World) : Type 0 where
  pub can : IsTrue (can_read u n)
  pub close : IsTrue (can_close u n)
  pub left : left u n ≡ bytes_at w.out.files name

pub fresh : (w : World) (name : List ℕ) (n : ℕ) → 3 ≤ n → Fresh w name n (after_open name Read (Ok n) w)
fresh w name n h =
    let here = get-insert_same w.opened n (record { name = name; mode = Read; taken = 0 }) in
    let apart = not_zero n h in
    record { can = rw (apart, here) refl; close = rw here refl; left = rw (apart, here) refl }

elim_false : false ≡ true → ⊥
elim_false e = cc

-- what was read is judged as the file is
judged_whole : (rest bytes : List ℕ) (loaded : Loaded) → IsWhole rest bytes → Judged bytes loaded → Judged rest loaded
judged_whole rest bytes Missing whole j = j
judged_whole rest bytes TooLarge whole j = whole.too_large j
judged_whole rest bytes NotUtf8 whole j = subst (λ b. Judged b NotUtf8) (whole.all j.0) j
judged_whole rest bytes (Text text) whole j = subst (λ b. Judged b (Text text)) (whole.all j.0) j

pub found : (x : Option (List ℕ)) (bytes : List ℕ) (loaded : Loaded) → IsTrue (is_some x) → IsWhole (unwrap_or x []) bytes → Judged bytes loaded → Found x loaded
found None bytes loaded h whole j = absurd (elim_false h)
found (Some file) bytes loaded h whole j = judged_whole file bytes loaded whole j

-- apart from one number, all is as before
pub same_others : (n : ℕ) (t0 t : Option World) → shown t ≡ shown t0 → ((w : World) → t0 ≡ Some w → (v : World) × (t ≡ Some v) × (closed n v ≡ closed n w)) → option_map (closed n) t ≡ option_map (closed n) t0
same_others n None None e f = refl
same_others n None (Some v) e f = let bad = e in cc
same_others n (Some w) t e f = let v = f w refl in ap (option_map (closed n)) v.1 ∙ ap Some v.2

-- the world before, where a file was opened, read and closed
pub reopened : (name : List ℕ) (n : ℕ) (t0 t1 t2 t3 : Option World) → WhereTold t0 (OpenAnswers name Read (Ok n)) → t1 ≡ option_map (after_open name Read (Ok n)) t0 → option_map (closed n) t2 ≡ option_map (closed n) t1 → t3 ≡ option_map (closed n) t2 → t3 ≡ t0
reopened name n None t1 t2 t3 answer opened read closing = closing ∙ read ∙ ap (option_map (closed n)) opened
reopened name n (Some w) t1 t2 t3 answer opened read closing = closing ∙ read ∙ ap (option_map (closed n)) opened ∙ ap Some (closed_opened w name n (answer w refl).0)

pub sees_same : (b a : Seen) → a.shown ≡ b.shown → a.torn ≡ b.torn → SeesSame b a
sees_same b a shown torn = record { shown = shown; torn = λ o e. omega (arith, torn) }

-- what the reader of UTF-8 says of bytes that are none
pub no_utf8 : (bytes : List ℕ) → ¬ (IsUtf8 bytes) → (b : Bool) → is_utf8 bytes ≡ b → b ≡ false
no_utf8 bytes none true e = absurd (none (IsUtf8-from_is_utf8 bytes e))
no_utf8 bytes none false e = refl
