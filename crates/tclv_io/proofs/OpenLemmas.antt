-- What may be done with a number that was opened.
use Rattle.std.proofs.Common.{◌≡◌, ◌≢◌, ℕ, Bool, true, false, cond, List, Some, None, ◌∙◌, ap, refl, subst}
use Rattle.std.specs.Prelude.{Option, Ok, IsTrue, nat_eq, ◌||◌, not}
use Rattle.std.specs.Cmp.{nat_cmp_total, eq_by_cmp_equiv}
use Rattle.std.specs.FinMap as map
use Rattle.std.specs.FinMap.{get-insert}
use Rattle.tclv_io.specs.declared.outside.Mode.{Mode}
use Rattle.tclv_io.specs.declared.outside.Mode.TheVariants.{Read, Write, Append}
use Rattle.tclv_io.specs.World.{World, Opened, Becomes, WhereTold, after_open, after_read, after_write, read_on, can_read, can_write, can_close, is_reading}
use Rattle.tclv_io.proofs.NumberLemmas.{taken_from-open}

-- where the outside tells, a number is open
abbrev pub OpenOn : Option World → ℕ → Opened → Type 0
OpenOn told n o = WhereTold told (λ w. map.get w.opened n ≡ Some o)

pub opened : (before now : Option World) (name : List ℕ) (mode : Mode) (n : ℕ) → Becomes before now (after_open name mode (Ok n)) → OpenOn now n (record { name = name; mode = mode; taken = 0 })
opened None now name mode n is w told = cc
opened (Some b) now name mode n is w told =
    let same : after_open name mode (Ok n) b ≡ w = cc in
    let o : Opened = record { name = name; mode = mode; taken = 0 } in
    subst (λ w. map.get w.opened n ≡ Some o) same
    (get-insert nat_cmp_total b.opened n o n ∙ ap (λ t. cond t (Some o) (map.get b.opened n)) ((eq_by_cmp_equiv nat_cmp_total).refl n))

-- a write changes nothing of it
pub still_open : {T : Type 0} (before now : Option World) (n m : ℕ) (piece : List ℕ) (x : T) (o : Opened) → OpenOn before n o → Becomes before now (after_write m piece (Ok x)) → OpenOn now n o
still_open None now n m piece x o on is w told = cc
still_open (Some b) now n m piece x o on is w told =
    let same : after_write m piece (Ok x) b ≡ w = cc in
    subst (λ w. map.get w.opened n ≡ Some o) same (on b refl)

or_true : (a b : Bool) → b ≡ true → (a || b) ≡ true
or_true true b e = refl
or_true false b e = e

not_reading : (o : Opened) → o.mode ≢ Read → not (is_reading o) ≡ true
not_reading o ne = elim o.mode as (λ m. (m ≢ Read) → not (elim m [ Read ↦ true | Write ↦ false | Append ↦ false ]) ≡ true) [
  | Read ↦ λ ne. absurd (ne refl)
  | Write ↦ λ ne. refl
  | Append ↦ λ ne. refl
] ne

reading : (o : Opened) → o.mode ≡ Read → is_reading o ≡ true
reading o e = rw e

pub may_write : (told : Option World) (n : ℕ) (o : Opened) → OpenOn told n o → o.mode ≢ Read → WhereTold told (λ w. IsTrue (can_write w n))
may_write told n o on ne w is =
    let last : elim (map.get w.opened n) [ None ↦ false | Some o ↦ not (is_reading o) ] ≡ true = rw (on w is) (not_reading o ne) in
    or_true (nat_eq n 1) _ (or_true (nat_eq n 2) _ last)

pub may_read : (told : Option World) (n : ℕ) (o : Opened) → OpenOn told n o → o.mode ≡ Read → WhereTold told (λ w. IsTrue (can_read w n))
may_read told n o on e w is =
    let last : elim (map.get w.opened n) [ None ↦ false | Some o ↦ is_reading o ] ≡ true = rw (on w is) (reading o e) in
    or_true (nat_eq n 0) _ last

pub may_close : (told : Option World) (n : ℕ) (o : Opened) → OpenOn told n o → WhereTold told (λ w. IsTrue (can_close w n))
may_close told n o on w is = rw (on w is)

-- a read goes on in it
pub read_open : (before now : Option World) (n k : ℕ) (o : Opened) → nat_eq n 0 ≡ false → OpenOn before n o → Becomes before now (after_read n (Ok k)) → OpenOn now n (read_on k o)
read_open None now n k o ne on is w told = cc
read_open (Some b) now n k o ne on is w told =
    let step = taken_from-open b n k o ne (on b refl) in
    let same : record b { opened = map.insert b.opened n (read_on k o) } ≡ w = cc in
    subst (λ w. map.get w.opened n ≡ Some (read_on k o)) same
    (get-insert nat_cmp_total b.opened n (read_on k o) n ∙ ap (λ t. cond t (Some (read_on k o)) (map.get b.opened n)) ((eq_by_cmp_equiv nat_cmp_total).refl n))
