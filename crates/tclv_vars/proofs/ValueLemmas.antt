-- Which cells hold a value after a write.
use Rattle.std.proofs.Common.{◌≡◌, ℕ, ◌+◌, ◌≤◌, Bool, true, false, cond, not, ◌||◌, true≢false, Option, None, Some, refl, sym, ap, subst, ◌∙◌, nat_eq, arith, IfOk, IsTrue}
use Rattle.std.specs.Prelude.{Result, Ok, Err, MatchResult, if◌then◌else◌}
use Rattle.std.specs.Ordering.{nat_cmp, eq_by_cmp}
use Rattle.std.specs.Cmp.{nat_cmp_total, unsigned_ties}
use Rattle.std.specs.FinMap.{get, insert, empty, get-insert, nat_cmp-IsAntisymmetric}
use Rattle.tclv_names.specs.Keyed.{Text, Named, Numbers}
use Rattle.tclv_vars.specs.declared.parts.Slot.{Slot}
use Rattle.tclv_vars.specs.declared.parts.Content.{Content}
use Rattle.tclv_vars.specs.declared.parts.Content.TheVariants.{Plain, Array}
use Rattle.tclv_vars.specs.declared.places.Home.{Home}
use Rattle.tclv_vars.specs.declared.places.Place.{Place}
use Rattle.tclv_vars.specs.declared.faults.VarFault.{VarFault}
use Rattle.tclv_vars.specs.declared.faults.VarFault.TheVariants as fault
use Rattle.tclv_vars.specs.Scoping.{slot_of, home}
use Rattle.tclv_vars.specs.Table.{Table, Spot, plain_at, read_in, read_element, read_slot, read, locate_in, locate_element, locate_slot, locate, set_cell, set_spot, write, plain, holds_value, has_value, Gives}
use Rattle.tclv_vars.specs.Sound.{Sound}
use Rattle.tclv_vars.proofs.ScopeLemmas.{tied}

-- nothing stands at a number that wasn't given out
pub not_given : (t : Table) (c : ℕ) → Sound t → t.next ≤ c → get t.contents c ≡ None
not_given t c sound h = elim (get t.contents c) as (λ o. get t.contents c ≡ o → o ≡ None) [
  | None ↦ λ e. refl
  | Some x ↦ λ e. let b = sound.given c x e in absurd (omega (arith, b, h))
] refl

no_value : (t : Table) (c : ℕ) → Sound t → t.next ≤ c → has_value t c ≡ false
no_value t c sound h = ap holds_value (not_given t c sound h)

array_put : (cs : Numbers Content) (c : ℕ) (es : Named ℕ) → holds_value (get cs c) ≡ false → (q : ℕ) → holds_value (get (insert cs c (Array es)) q) ≡ holds_value (get cs q)
array_put cs c es none q = ap holds_value (get-insert nat_cmp_total cs c (Array es) q)
    ∙ elim (eq_by_cmp nat_cmp q c) as (λ b. eq_by_cmp nat_cmp q c ≡ b → holds_value (cond b (Some (Array es)) (get cs q)) ≡ holds_value (get cs q)) [
      | true ↦ λ e. sym none ∙ ap (λ n. holds_value (get cs n)) (sym (nat_cmp-IsAntisymmetric q c (tied (nat_cmp q c) e)))
      | false ↦ λ e. refl
    ] refl

plain_put : (cs : Numbers Content) (c q : ℕ) → holds_value (get (insert cs c Plain) q) ≡ nat_eq q c || holds_value (get cs q)
plain_put cs c q = ap holds_value (get-insert nat_cmp_total cs c Plain q)
    ∙ elim (eq_by_cmp nat_cmp q c) as (λ b. holds_value (cond b (Some Plain) (get cs q)) ≡ b || holds_value (get cs q)) [ true ↦ refl | false ↦ refl ]
    ∙ ap (λ b. b || holds_value (get cs q)) (sym (unsigned_ties q c))

-- finding a cell gives none a value and takes none away
abbrev pub Kept : Table → Result Spot VarFault → Type 0
Kept t r = MatchResult r (λ s. ((c : ℕ) → has_value s.after c ≡ has_value t c) × (s.fresh ≡ true → has_value t s.cell ≡ false)) (λ e. Unit {0})

kept_in : (t : Table) (c : ℕ) (es : Named ℕ) (i : Text) (o : Option ℕ) → get t.contents c ≡ Some (Array es) → Sound t → Kept t (locate_in t c es i o)
kept_in t c es i None e sound = (array_put t.contents c (insert es i t.next) (ap holds_value e), λ _. no_value t t.next sound (omega arith))
kept_in t c es i (Some x) e sound = (λ _. refl, λ h. absurd (true≢false (sym h)))

kept_element : (t : Table) (c : ℕ) (o : Option Content) (i : Text) → get t.contents c ≡ o → Sound t → Kept t (locate_element t c o i)
kept_element t c None i e sound = (array_put t.contents c (insert empty i t.next) (ap holds_value e), λ _. no_value t t.next sound (omega arith))
kept_element t c (Some Plain) i e sound = tt
kept_element t c (Some (Array es)) i e sound = kept_in t c es i (get es i) e sound

kept_slot : (t : Table) (h : Home) (n : Text) (o : Option Slot) (index : Option Text) → Sound t → Kept t (locate_slot t h n o index)
kept_slot t h n None None sound = (λ _. refl, λ _. no_value t t.next sound (omega arith))
kept_slot t h n None (Some i) sound = (array_put t.contents t.next (insert empty i (t.next + 1)) (no_value t t.next sound (omega arith)), λ _. no_value t (t.next + 1) sound (omega arith))
kept_slot t h n (Some s) None sound = (λ _. refl, λ h. absurd (true≢false (sym h)))
kept_slot t h n (Some s) (Some i) sound = kept_element t s.cell (get t.contents s.cell) i refl sound

pub Kept-locate : (t : Table) (h : Home) (n : Text) (index : Option Text) → Sound t → Kept t (locate t h n index)
Kept-locate t h n index sound = kept_slot t h n (slot_of t.scopes h n) index sound

-- a write gives one cell a value, and tells whether it had none
abbrev pub Values : Table → Result Spot VarFault → Type 0
Values t r = MatchResult r (λ s. ((c : ℕ) → has_value s.after c ≡ nat_eq c s.cell || has_value t c) × (s.fresh ≡ not (has_value t s.cell))) (λ e. Unit {0})

had : (t : Table) (c q : ℕ) → has_value t c ≡ true → has_value t q ≡ nat_eq q c || has_value t q
had t c q h = elim (nat_eq q c) as (λ b. nat_eq q c ≡ b → has_value t q ≡ b || has_value t q) [
  | true ↦ λ e. ap (has_value t) (nat_cmp-IsAntisymmetric q c (tied (nat_cmp q c) (sym (unsigned_ties q c) ∙ e))) ∙ h
  | false ↦ λ e. refl
] refl

values_cell : (t : Table) (c : ℕ) (o : Option Content) → get t.contents c ≡ o → Values t (set_cell t c o)
values_cell t c None e = (plain_put t.contents c, sym (ap (λ o. not (holds_value o)) e))
values_cell t c (Some Plain) e = (λ q. had t c q (ap holds_value e), sym (ap (λ o. not (holds_value o)) e))
values_cell t c (Some (Array es)) e = tt

values_spot : (t : Table) (r : Result Spot VarFault) → Kept t r → Values t (set_spot t r)
values_spot t (Err e) k = tt
values_spot t (Ok s) k = elim (s.fresh) as (λ b. (b ≡ true → has_value t s.cell ≡ false) → Values t (if b then Ok (record { cell = s.cell; fresh = b; after = plain s.after s.cell }) else set_cell t s.cell (get t.contents s.cell))) [
  | true ↦ λ f. (λ q. plain_put s.after.contents s.cell q ∙ ap (λ b. nat_eq q s.cell || b) (k.0 q), sym (ap not (f refl)))
  | false ↦ λ f. values_cell t s.cell (get t.contents s.cell) refl
] k.1

pub values_write : (t : Table) (at : Place) (n : Text) (index : Option Text) → Sound t → Values t (write t at n index)
values_write t at n index sound = let h = home t.scopes at in values_spot t (locate t h n index) (kept_slot t h n (slot_of t.scopes h n) index sound)

pub gives_values : (m : Result Spot VarFault) (t : Table) (r : Result (ℕ × Bool) VarFault) (new : Table) → Values t m → Gives m t r new → IfOk r (λ p. (c : ℕ) → has_value new c ≡ nat_eq c p.0 || has_value t c)
gives_values m t (Ok p) new v g = (subst (Values t) g v).0
gives_values m t (Err e) new v g = tt

pub gives_fresh : (m : Result Spot VarFault) (t : Table) (r : Result (ℕ × Bool) VarFault) (new : Table) → Values t m → Gives m t r new → IfOk r (λ p. p.1 ≡ not (has_value t p.0))
gives_fresh m t (Ok p) new v g = (subst (Values t) g v).1
gives_fresh m t (Err e) new v g = tt

-- what is read holds a value
read_plain : (missing : VarFault) (cs : Numbers Content) (c : ℕ) (o : Option Content) → get cs c ≡ o → IfOk (plain_at missing o c) (λ q. IsTrue (holds_value (get cs q)))
read_plain missing cs c None e = tt
read_plain missing cs c (Some Plain) e = ap holds_value e
read_plain missing cs c (Some (Array es)) e = tt

read_index : (cs : Numbers Content) (o : Option ℕ) → IfOk (read_in cs o) (λ q. IsTrue (holds_value (get cs q)))
read_index cs None = tt
read_index cs (Some e) = read_plain fault.NoElement cs e (get cs e) refl

read_of : (cs : Numbers Content) (o : Option Content) (i : Text) → IfOk (read_element cs o i) (λ q. IsTrue (holds_value (get cs q)))
read_of cs None i = tt
read_of cs (Some Plain) i = tt
read_of cs (Some (Array es)) i = read_index cs (get es i)

read_name : (cs : Numbers Content) (o : Option Slot) (index : Option Text) → IfOk (read_slot cs o index) (λ q. IsTrue (holds_value (get cs q)))
read_name cs None index = tt
read_name cs (Some s) None = read_plain fault.NoVariable cs s.cell (get cs s.cell) refl
read_name cs (Some s) (Some i) = read_of cs (get cs s.cell) i

pub read_value : (t : Table) (at : Place) (n : Text) (index : Option Text) → IfOk (read t at n index) (λ q. IsTrue (has_value t q))
read_value t at n index = read_name t.contents (slot_of t.scopes (home t.scopes at) n) index
