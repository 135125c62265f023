-- What is left where no holder is outside.
use Rattle.std.proofs.Common.{◌≡◌, ℕ, zero, suc, ◌+◌, ◌<◌, ◌≤◌, inl, inr, List, [], ◌∷◌, map, length, get_or, true, false, true≢false, Bool, cond, eqb, Some, None, IsSome, is_some, refl, sym, ap, subst, ◌∙◌, arith, nat_eq}
use Rattle.std.specs.Prelude.{◌⊎◌, ◌||◌}
use Rattle.std.specs.Option.{option_map}
use Rattle.std.specs.Map.{lookup}
use Rattle.std.specs.List.{sum_by, list_any, AllByRecursion, IsDistinct}
use Rattle.std.specs.FinMap.{empty, get, get-empty}
use Rattle.std.specs.Ordering.{nat_cmp}
use Rattle.std.proofs.lemmas.Bool.{cases_eq, cases_lt, eqb-true}
use Rattle.std.proofs.lemmas.List.{get_or_past}
use Rattle.std.proofs.lemmas.List.Sums.{sum_by-cons}
use Rattle.std.proofs.lemmas.Map.Keys.{IsDistinct-cons}
use Rattle.std.proofs.lemmas.Map.Steps.{length-le_from_distinct_below}
use Rattle.tclv_heap.specs.declared.ids.Object.{Object}
use Rattle.tclv_heap.specs.Graph.{at, stuck, count_in, holds, held, IsGrounded, Leads}
use Rattle.tclv_heap.specs.Graph.IsGrounded.{ground}
use Rattle.tclv_heap.specs.Graph.Leads.{here, down}
use Rattle.tclv_heap.specs.Holders.{Holders}
use Rattle.tclv_text.specs.declared.counters.Stats.{Stats}
use Rattle.tclv_value.specs.Forms.{parts_of}
use Rattle.tclv_value.specs.Leftovers.{IsHeldForGood}
use Rattle.tclv_value.specs.Places.{text_of, by_cell, view_of, places, IsPlaced}
use Rattle.tclv_value.specs.View.{View}
use Rattle.tclv_value.specs.declared.forms.Form.{Form}
use Rattle.tclv_value.proofs.CellLemmas.{get-by_cell}
use Rattle.tclv_value.proofs.GraphLemmas.{by_slot, no_object}
use Rattle.tclv_value.proofs.ViewLemmas.{G}

-- one step more on a way down
leads_more : (g : G) (x y z : ℕ) → Leads parts_of g x y → 0 < holds parts_of z (at g y) → Leads parts_of g x z
leads_more g x y z here h = down h here
leads_more g x y z (down k rest) h = down k (leads_more g _ y z rest h)

-- no object reaches itself
no_cycle : (g : G) (x : ℕ) → IsGrounded parts_of g x → (y : ℕ) → Leads parts_of g x y → 0 < holds parts_of x (at g y) → ⊥
no_cycle g x (ground below) y here h = no_cycle g x (below x h) x here h
no_cycle g x (ground below) y (down {p = p} k rest) h = no_cycle g p (below p k) x (leads_more g p y x rest h) k

-- a part is held by an object
some_holder : (slots : G) (x : ℕ) → 0 < sum_by (holds parts_of x) slots → (y : ℕ) × (y < length slots) × (0 < holds parts_of x (get_or slots y None))
some_holder [] x some = absurd (omega (arith, some))
some_holder (s ∷ slots) x some = elim (cases_lt 0 (holds parts_of x s)) [
  | inl first ↦ (zero, omega arith, first)
  | inr none ↦ let rest = some_holder slots x (omega (arith, some, none, sum_by-cons (holds parts_of x) s slots)) in (suc rest.0, omega (arith, rest.1), rest.2)
]

held_by : (g : G) (x : ℕ) → 0 < held parts_of g x → (y : ℕ) × (y < length g) × (0 < holds parts_of x (at g y))
unfolding held
held_by g x some = some_holder g x some

-- one of a list, or another
one_of : (q y : ℕ) (ys : List ℕ) → list_any (eqb q) (y ∷ ys) ≡ true → (q ≡ y) ⊎ (list_any (eqb q) ys ≡ true)
one_of q y ys is = elim (eqb q y) as (λ b. eqb q y ≡ b → (b || list_any (eqb q) ys) ≡ true → (q ≡ y) ⊎ (list_any (eqb q) ys ≡ true)) [
  | true ↦ λ e found. inl (eqb-true q y e)
  | false ↦ λ e found. inr found
] refl is

-- another one than each of a list
all_other : (y : ℕ) (ys : List ℕ) → list_any (eqb y) ys ≡ false → AllByRecursion (λ z. eqb y z ≡ false) ys
all_other y [] e = tt
all_other y (z ∷ zs) e = elim (eqb y z) as (λ b. eqb y z ≡ b → (b || list_any (eqb y) zs) ≡ false → AllByRecursion (λ q. eqb y q ≡ false) (z ∷ zs)) [
  | true ↦ λ h k. absurd (true≢false k)
  | false ↦ λ h k. (h, all_other y zs k)
] refl e

distinct_none : IsDistinct eqb []
unfolding IsDistinct
distinct_none = tt

-- The objects of the list are on a way down from the first of them, each once.
record Chain (g : G) (x : ℕ) (seen : List ℕ) : Type 0 where
  leads : (y : ℕ) → list_any (eqb y) (x ∷ seen) ≡ true → Leads parts_of g x y
  distinct : IsDistinct eqb (x ∷ seen)
  inside : (y : ℕ) → list_any (eqb y) (x ∷ seen) ≡ true → y < length g

module _ (g : G) (o : ℕ) (grounded : (x : ℕ) → IsGrounded parts_of g x) (holders : Holders parts_of g []) (counts : (x : ℕ) (n : Object Form) → at g x ≡ Some n → 1 ≤ n.count) where
  climb : (k x : ℕ) (seen : List ℕ) → length (x ∷ seen) + k ≡ length g + 1 → Chain g x seen → IsSome (at g x) → Leads parts_of g x o → IsHeldForGood g o
  climb zero x seen many chain there leads = absurd (omega (arith, many, length-le_from_distinct_below (x ∷ seen) (length g) chain.distinct chain.inside))
  climb (suc k) x seen many chain there leads = by_slot _ (at g x) (λ e. absurd (no_object g x e there)) (λ n e. elim (cases_eq n.count stuck) [
    | inl stays ↦ record { holder = x; stays = ap count_in e ∙ stays; leads = leads }
    | inr loose ↦
        let above = held_by g x (omega (arith, holders.counted x n e loose, counts x n e)) in
        let y : ℕ = above.0 in
        let holding : 0 < holds parts_of x (at g y) = above.2 in
        let other : list_any (eqb y) (x ∷ seen) ≡ false = not_found (list_any (eqb y) (x ∷ seen)) (λ found. no_cycle g x (grounded x) y (chain.leads y found) holding) in
        climb k y (x ∷ seen) (omega (arith, many)) (record {
          leads = λ z is. elim (one_of z y (x ∷ seen) is) [
            | inl same ↦ subst (λ q. Leads parts_of g y q) (sym same) here
            | inr found ↦ down holding (chain.leads z found)
          ];
          distinct = IsDistinct-cons eqb y (x ∷ seen) (all_other y (x ∷ seen) other) chain.distinct;
          inside = λ z is. elim (one_of z y (x ∷ seen) is) [
            | inl same ↦ omega (arith, same, above.1)
            | inr found ↦ chain.inside z found
          ];
        }) (there_y y holding) (down holding leads)
  ])
    where
      not_found : (b : Bool) → (b ≡ true → ⊥) → b ≡ false
      not_found true never = absurd (never refl)
      not_found false never = refl

      there_y : (y : ℕ) → 0 < holds parts_of x (at g y) → IsSome (at g y)
      there_y y holding = by_slot _ (at g y) (λ e. absurd (omega (arith, holding, ap (holds parts_of x) e))) (λ n e. ap is_some e)

  pub left_over : IsSome (at g o) → IsHeldForGood g o
  left_over there =
      let inside : o < length g = inside_g g o there in
      climb (length g) o [] (omega arith) (record {
        leads = λ y is. elim (one_of y o [] is) [
          | inl same ↦ subst (λ q. Leads parts_of g o q) (sym same) here
          | inr found ↦ absurd (true≢false (sym found))
        ];
        distinct = IsDistinct-cons eqb o [] tt distinct_none;
        inside = λ y is. elim (one_of y o [] is) [
          | inl same ↦ omega (arith, same, inside)
          | inr found ↦ absurd (true≢false (sym found))
        ];
      }) there here
    where
      inside_g : (h : G) (x : ℕ) → IsSome (at h x) → x < length h
      inside_g h x is = elim (cases_lt x (length h)) [
        | inl within ↦ within
        | inr past ↦ absurd (no_object h x (get_or_past h x None past) is)
      ]

no_ids : {X : Type 0} (f : ℕ → X) (ids : List ℕ) → map f ids ≡ [] → ids ≡ []
no_ids f [] is = refl
no_ids f (id ∷ ids) is = absurd (cc)

no_cells : (f : ℕ → List ℕ) (es : List (ℕ × ℕ)) → by_cell f es ≡ empty → es ≡ []
no_cells f [] is = refl
no_cells f (e ∷ es) is = absurd (let gone = sym (get-by_cell f (e ∷ es) e.0) ∙ ap (λ m. get m e.0) is ∙ get-empty nat_cmp e.0 in found (nat_eq e.0 e.0) (is_itself e.0) gone)
  where
    is_itself : (k : ℕ) → nat_eq k k ≡ true
    is_itself k = grind arith

    found : (b : Bool) → b ≡ true → option_map f (cond b (Some e.1) (lookup (nat_eq e.0) es)) ≡ None → ⊥
    found true is_b is_n = cc
    found false is_b is_n = true≢false (sym is_b)

-- a store without places
pub nothing_left : (g : G) (st : Stats) (ids : List ℕ) (es : List (ℕ × ℕ)) (v : View) → view_of g st ids es ≡ v → IsPlaced g ids es → v.stack ≡ [] → v.cells ≡ empty → (o : ℕ) → IsSome (at v.graph o) → IsHeldForGood v.graph o
nothing_left g st ids es v view placed stack cells o there =
    let no_stack : ids ≡ [] = no_ids (text_of g) ids (ap (λ (x : View). x.stack) view ∙ stack) in
    let no_entries : es ≡ [] = no_cells (text_of g) es (ap (λ (x : View). x.cells) view ∙ cells) in
    let none : Holders parts_of g [] = subst (λ xs. Holders parts_of g xs) (ap (λ xs. places xs es) no_stack ∙ ap (λ xs. places [] xs) no_entries) placed.holders in
    let same : g ≡ v.graph = ap (λ (x : View). x.graph) view in
    subst (λ h. IsHeldForGood h o) same (left_over g o placed.sound.sound.grounded none (λ x n e. (placed.sound.sound.counts x n e).0) (subst (λ h. IsSome (at h o)) (sym same) there))
