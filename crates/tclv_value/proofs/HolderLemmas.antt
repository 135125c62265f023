-- Lists of outside holders, by how often each object stands in them.
use Rattle.std.proofs.Common.{◌≡◌, ◌≢◌, ℕ, zero, suc, ◌+◌, ◌<◌, List, [], ◌∷◌, ◌++◌, map, get_or, length, cond, eqb, Bool, true, false, Option, Some, None, refl, ap, ◌∙◌, arith, nat_eq}
use Rattle.std.specs.Prelude.{swap_remove, position, not, nat_lt}
use Rattle.std.proofs.lemmas.List.{length-map}
use Rattle.std.specs.Option.{option_map_or}
use Rattle.std.specs.List.{sum_by, position_or_len}
use Rattle.std.specs.Map.{lookup, values_of, keys_of}
use Rattle.std.proofs.lemmas.Bool.{ne_eqb}
use Rattle.std.proofs.lemmas.List.Sums.{sum_by-append, sum_by-cons, sum_by-swap_remove}
use Rattle.indexmap.specs.IndexMap.{insert_entry, swap_remove_entry}
use Rattle.tclv_heap.specs.Graph.{Graph, occurs, same, HasOutside}
use Rattle.tclv_heap.specs.Holders.{Holders}

pub occurs-append : (o : ℕ) (xs ys : List ℕ) → occurs o (xs ++ ys) ≡ occurs o xs + occurs o ys
occurs-append o xs ys = sum_by-append (λ y. cond (eqb o y) 1 0) xs ys

pub occurs-cons : (o p : ℕ) (ps : List ℕ) → occurs o (p ∷ ps) ≡ same o p + occurs o ps
occurs-cons o p ps = sum_by-cons (λ y. cond (eqb o y) 1 0) p ps

pub same_self : (o : ℕ) → same o o ≡ 1
same_self o = grind arith

pub same_other : (o p : ℕ) → o ≢ p → same o p ≡ 0
same_other o p ne = ap (λ b. cond b 1 0) (ne_eqb o p ne)

-- what stands in a list at an index
pub occurs_at : (ids : List ℕ) (i o : ℕ) → i < length ids → get_or ids i 0 ≡ o → 0 < occurs o ids
occurs_at [] i o h e = absurd (omega arith)
occurs_at (p ∷ ps) zero o h e = omega (arith, occurs-cons o p ps, same_self o, ap (same o) e)
occurs_at (p ∷ ps) (suc i) o h e = omega (arith, occurs-cons o p ps, occurs_at ps i o (omega arith) e)

-- what a look-up finds
pub occurs_found : (test : ℕ → Bool) (es : List (ℕ × ℕ)) (o : ℕ) → lookup test es ≡ Some o → 0 < occurs o (values_of es)
occurs_found test [] o is = absurd (cc)
occurs_found test (e ∷ es) o is =
    elim (test e.0) as (λ b. cond b (Some e.1) (lookup test es) ≡ Some o → 0 < occurs o (values_of (e ∷ es))) [
      | true ↦ λ found. let first : e.1 ≡ o = cc in omega (arith, occurs-cons o e.1 (values_of es), same_self o, ap (same o) first)
      | false ↦ λ found. omega (arith, occurs-cons o e.1 (values_of es), occurs_found test es o found)
    ] is

-- functions that agree on what stands in a list
pub map_agree : {X : Type 0} (f h : ℕ → X) (ps : List ℕ) → ((p : ℕ) → 0 < occurs p ps → f p ≡ h p) → map f ps ≡ map h ps
map_agree f h [] agree = refl
map_agree f h (p ∷ ps) agree =
    let first : f p ≡ h p = agree p (omega (arith, occurs-cons p p ps, same_self p)) in
    let rest = map_agree f h ps (λ q i. agree q (omega (arith, occurs-cons q p ps))) in
    cc

-- the holder of an object that may have been there
abbrev pub listed : Option ℕ → List ℕ
listed None = []
listed (Some o) = o ∷ []

-- the cells' holders after an insert
pub occurs_insert : (x c v : ℕ) (es : List (ℕ × ℕ)) → occurs x (values_of (insert_entry nat_eq es c v)) + occurs x (listed (lookup (nat_eq c) es)) ≡ occurs x (values_of es) + same x v
occurs_insert x c v [] = omega (arith, occurs-cons x v [])
occurs_insert x c v (e ∷ es) =
    elim (nat_eq c e.0) as (λ b. occurs x (values_of (cond b ((e.0, v) ∷ es) (e ∷ insert_entry nat_eq es c v))) + occurs x (listed (cond b (Some e.1) (lookup (nat_eq c) es))) ≡ occurs x (values_of (e ∷ es)) + same x v) [
      | true ↦ omega (arith, occurs-cons x v (values_of es), occurs-cons x e.1 (values_of es), occurs-cons x e.1 [])
      | false ↦ omega (arith, occurs_insert x c v es, occurs-cons x e.1 (values_of (insert_entry nat_eq es c v)), occurs-cons x e.1 (values_of es))
    ]

lt_nat_lt : (a b : ℕ) → a < b → nat_lt a b ≡ true
lt_nat_lt a b h = grind arith

-- the values of entries, as a sum over the entries
occurs_values : (x : ℕ) (es : List (ℕ × ℕ)) → occurs x (values_of es) ≡ sum_by (λ e. same x e.1) es
occurs_values x [] = refl
occurs_values x (e ∷ es) = omega (arith, occurs-cons x e.1 (values_of es), occurs_values x es, sum_by-cons (λ (d : ℕ × ℕ). same x d.1) e es)

-- where a look-up finds its entry
record Found (test : ℕ → Bool) (es : List (ℕ × ℕ)) (o : ℕ) : Type 0 where
  within : position_or_len test (keys_of es) < length (keys_of es)
  value : (d : ℕ × ℕ) → (get_or es (position_or_len test (keys_of es)) d).1 ≡ o

found_at : (test : ℕ → Bool) (es : List (ℕ × ℕ)) (o : ℕ) → lookup test es ≡ Some o → Found test es o
found_at test [] o is = absurd (cc)
found_at test (e ∷ es) o is =
    elim (test e.0) as (λ b. test e.0 ≡ b → cond b (Some e.1) (lookup test es) ≡ Some o → Found test (e ∷ es) o) [
      | true ↦ λ t found.
          let first : e.1 ≡ o = cc in
          let at : position_or_len test (keys_of (e ∷ es)) ≡ 0 = ap (λ b. cond (not b) (1 + position_or_len test (keys_of es)) 0) t in
          record { within = omega (arith, at); value = λ d. ap (λ i. (get_or (e ∷ es) i d).1) at ∙ first }
      | false ↦ λ t found.
          let rest = found_at test es o found in
          let at : position_or_len test (keys_of (e ∷ es)) ≡ suc (position_or_len test (keys_of es)) = ap (λ b. cond (not b) (1 + position_or_len test (keys_of es)) 0) t ∙ omega arith in
          record { within = omega (arith, at, rest.within); value = λ d. ap (λ i. (get_or (e ∷ es) i d).1) at ∙ rest.value d }
    ] refl is

-- the cells' holders after a removal
pub occurs_swap_remove : (x : ℕ) (test : ℕ → Bool) (es : List (ℕ × ℕ)) (o : ℕ) → lookup test es ≡ Some o → occurs x (values_of (swap_remove_entry test es)) + same x o ≡ occurs x (values_of es)
occurs_swap_remove x test [] o is = absurd (cc)
occurs_swap_remove x test (e ∷ es) o is =
    let f = found_at test (e ∷ es) o is in
    let index : ℕ = position_or_len test (keys_of (e ∷ es)) in
    let position_is : position test (keys_of (e ∷ es)) ≡ Some index = ap (λ b. cond b (Some index) None) (lt_nat_lt index (length (keys_of (e ∷ es))) f.within) in
    let removed : swap_remove_entry test (e ∷ es) ≡ swap_remove (e ∷ es) index e = ap (λ r. option_map_or (λ i. swap_remove (e ∷ es) i e) r (e ∷ es)) position_is in
    omega (
      arith,
      ap (λ xs. occurs x (values_of xs)) removed,
      occurs_values x (swap_remove (e ∷ es) index e),
      occurs_values x (e ∷ es),
      sum_by-swap_remove (λ (d : ℕ × ℕ). same x d.1) (e ∷ es) index e (omega (arith, f.within, length-map (e ∷ es) (λ (d : ℕ × ℕ). d.0))),
      ap (same x) (f.value e),
    )

module _ {F : Type 0} (parts : F → List ℕ) (g : Graph F) where
  -- the order of the holders counts for nothing
  pub Holders_same : (ids ids2 : List ℕ) → ((x : ℕ) → occurs x ids ≡ occurs x ids2) → Holders parts g ids → Holders parts g ids2
  Holders_same ids ids2 alike holders = record {
    there = λ p some. holders.there p (omega (arith, some, alike p));
    counted = λ p n is loose. omega (arith, holders.counted p n is loose, alike p);
  }

  -- who is listed may be handed over
  pub Holders_outside : (ids : List ℕ) (o : ℕ) → Holders parts g ids → 0 < occurs o ids → HasOutside parts g o 1
  Holders_outside ids o holders some = record {
    there = holders.there o some;
    outside = λ n is loose. omega (arith, holders.counted o n is loose, some);
  }
