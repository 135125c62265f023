-- Ways that are open are found.
use Rattle.std.proofs.Common.{◌≡◌, ℕ, zero, suc, ◌+◌, ◌-◌, ◌<◌, ◌≤◌, List, [], ◌∷◌, map, length, take, drop, get_or, Result, Ok, Err, Option, Some, None, IsSome, Bool, refl, sym, ap, subst, ◌∙◌, arith}
use Rattle.std.specs.Prelude.{IfOk, IfSome, IfNone, IsTrue, slice_get}
use Rattle.tclv_heap.specs.Graph.{at, count_in}
use Rattle.tclv_heap.specs.Stands.{depth_of, deepest}
use Rattle.tclv_value.specs.Kept.{list_at}
use Rattle.tclv_value.specs.Ways.{ids_at, IsUnshared, NamesPlace, LeadsOpen, last, more}
use Rattle.tclv_value.proofs.ViewLemmas.{G}
use Rattle.tclv_value.proofs.WayLemmas.{rest_places}

pub leads_first : {g : G} {value high id : ℕ} {indices : List ℕ} → LeadsOpen g value high id indices → IsSome (list_at g id) × (count_in (at g id) ≡ 1)
leads_first (last here names low) = (here.list, here.alone)
leads_first (more here names high is leads) = (here.list, here.alone)

pub leads_low : {g : G} {value high id : ℕ} {indices : List ℕ} → LeadsOpen g value high id indices → depth_of (at g value) < high
leads_low (last here names low) = low
leads_low (more here names high is leads) = omega (arith, high, leads_low leads)

-- the object behind it, where the path goes on
pub record Onward (g : G) (value high id k : ℕ) (indices : List ℕ) : Type 0 where
  pub above : 1 < high
  pub part : ℕ
  pub is : slice_get (ids_at g id) k ≡ Some part
  pub leads : LeadsOpen g value (high - 1) part (take (length indices - 1) (drop 1 indices))

ok_same : {E : Type 0} {a b : ℕ} (x : Result ℕ E) → x ≡ Ok a → x ≡ Ok b → a ≡ b
ok_same x p q = let e = sym p ∙ q in cc

pub onward : {g : G} {value high id : ℕ} {indices : List ℕ} (i d k : ℕ) → i ≡ get_or indices 0 d → (length indices ≡ 1 → ⊥) → NamesPlace g id i k → LeadsOpen g value high id indices → Onward g value high id k indices
onward i d k is long place (last here names low) = absurd (long refl)
onward {g = g} {value = value} {high = high} {id = id} i d k is long place (more {i = j} {k = n} {part = p} {indices = rest} here names above part leads) =
    let there : NamesPlace g id j k = subst (λ o. NamesPlace g id o k) is place in
    let same : n ≡ k = ok_same _ names there in
    record {
      above = above;
      part = p;
      is = subst (λ m. slice_get (ids_at g id) m ≡ Some p) same part;
      leads = subst (LeadsOpen g value (high - 1) p) (sym (rest_places (j ∷ rest))) leads;
    }

-- the rest of the way is found
pub rest_found : {g : G} {value high id : ℕ} {indices : List ℕ} (i d k p : ℕ) → i ≡ get_or indices 0 d → (length indices ≡ 1 → ⊥) → NamesPlace g id i k
    → Some p ≡ slice_get (ids_at g id) k → (LeadsOpen g value (high - 1) p (take (length indices - 1) (drop 1 indices)) → ⊥) → LeadsOpen g value high id indices → ⊥
rest_found {g = g} {value = value} {high = high} {indices = indices} i d k p is long place found none leads =
    let on = onward i d k is long place leads in
    let same : on.part ≡ p = (let e : Some on.part ≡ Some p = sym on.is ∙ sym found in cc) in
    none (subst (λ o. LeadsOpen g value (high - 1) o (take (length indices - 1) (drop 1 indices))) same on.leads)

-- answers where nothing is found
pub if_missing : {T E : Type 0} {P Q : Type 0} (r : Result (Option T) E) → (P → Q) → IfOk r (λ found. IfNone found P) → IfOk r (λ found. IfNone found Q)
if_missing (Ok None) f h = f h
if_missing (Ok (Some x)) f h = tt
if_missing (Err e) f h = tt

pub none_is : {T : Type 0} {P : Type 0} (o : Option T) → o ≡ None → IfNone o P → P
none_is None is h = h
none_is (Some x) is h = absurd (cc)
