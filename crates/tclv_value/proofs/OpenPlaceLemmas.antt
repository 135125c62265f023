-- Ways that are open from a place of a store.
use Rattle.std.proofs.Common.{◌≡◌, ℕ, zero, suc, ◌+◌, ◌-◌, ◌<◌, ◌≤◌, List, [], ◌∷◌, map, length, take, drop, get_or, IsSome, Bool, true, false, true≢false, refl, sym, ap, subst, ◌∙◌, Result, Ok, Err, arith}
use Rattle.std.specs.Prelude.{IsTrue, OnOk, ◌↔◌}
use Rattle.std.proofs.lemmas.List.{length-map}
use Rattle.tclv_text.specs.declared.counters.Stats.{Stats}
use Rattle.tclv_heap.specs.Graph.{at, text_in}
use Rattle.tclv_value.specs.Changes.{IsUnder}
use Rattle.tclv_value.specs.ListObjects.{IsListAt, IsAloneAt, depth_at}
use Rattle.tclv_heap.specs.Stands.{deepest}
use Rattle.tclv_value.specs.Places.{view_of, made_of, text_of, IsPlaced, id_at}
use Rattle.tclv_value.specs.SetObjects.{IsOpenAt, SetsAlong}
use Rattle.tclv_value.specs.Stacks.{top}
use Rattle.tclv_value.specs.View.{View, IsMade, made_at, id_of}
use Rattle.tclv_value.specs.Ways.{LeadsOpen}
use Rattle.tclv_value.specs.declared.places.At.{At}
use Rattle.tclv_value.specs.declared.places.At.TheVariants.{Stack}
use Rattle.tclv_value.proofs.OpenLemmas.{leads_first, leads_low}
use Rattle.tclv_value.proofs.SetPlaceLemmas.{id_view, graph_is, value_view}
use Rattle.tclv_value.proofs.ViewLemmas.{G, made_is}
use Rattle.tclv_value.proofs.WayPlaceLemmas.{under_one}

taken_at : (b : ℕ) (xs : List ℕ) (k d : ℕ) → k < length (take b xs) → (k < b) × (k < length xs) × (get_or (take b xs) k d ≡ get_or xs k 0)
taken_at zero xs k d within = absurd (omega (arith, within))
taken_at (suc b) [] k d within = absurd (omega (arith, within))
taken_at (suc b) (x ∷ xs) zero d within = (omega arith, omega arith, refl)
taken_at (suc b) (x ∷ xs) (suc k) d within =
    let rest = taken_at b xs k d (omega (arith, within)) in
    (omega (arith, rest.0), omega (arith, rest.1), rest.2)

first_at : (xs : List ℕ) (k d : ℕ) → get_or xs k d ≡ get_or xs (0 + k) d
first_at xs k d = let e : k ≡ 0 + k = omega arith in ap (λ n. get_or xs n d) e

next_at : (x : ℕ) (xs : List ℕ) (b k d : ℕ) → get_or xs (b + k) d ≡ get_or (x ∷ xs) (suc b + k) d
next_at x xs b k d = let e : suc (b + k) ≡ suc b + k = omega arith in ap (λ n. get_or (x ∷ xs) n d) e

dropped_at : (b : ℕ) (xs : List ℕ) (k d : ℕ) → k < length (drop b xs) → (b + k < length xs) × (get_or (drop b xs) k d ≡ get_or xs (b + k) d)
dropped_at zero xs k d within = (omega (arith, within), first_at xs k d)
dropped_at (suc b) [] k d within = absurd (omega (arith, within))
dropped_at (suc b) (x ∷ xs) k d within =
    let rest = dropped_at b xs k d within in
    (omega (arith, rest.0), rest.1 ∙ next_at x xs b k d)

module _ (g : G) {st : Stats} (ids : List ℕ) (es : List (ℕ × ℕ)) (value id : ℕ) (place : At) (v : View) (view : view_of g st ids es ≡ v) (placed : IsPlaced g ids es) (id_is : id ≡ id_at ids es place) (value_is : value ≡ get_or ids (length ids - 1) 0) (path : ℕ) (room : IsUnder v (path + 1) place) (opens : IsOpenAt v place path) where
  one : IsUnder v 1 place
  one = under_one v path place room

  pub open_leads : LeadsOpen g value 50 id (take path (top (path + 1) ids))
  open_leads =
      let same_graph = graph_is g ids es value id place v view placed id_is value_is one in
      let same_id = id_view g ids es value id place v view placed id_is value_is one in
      let same_value = value_view g ids es value id place v view placed id_is value_is one in
      let same_ids : v.stack_ids ≡ ids = ap (λ (w : View). w.stack_ids) (sym view) in
      subst (λ xs. LeadsOpen g value 50 id (take path (top (path + 1) xs))) same_ids
      (subst (λ (x : G). LeadsOpen x value 50 id (take path (top (path + 1) v.stack_ids))) same_graph
      (subst (λ o. LeadsOpen v.graph o 50 id (take path (top (path + 1) v.stack_ids))) same_value
      (subst (λ o. LeadsOpen v.graph (id_of v (Stack (length v.stack - 1))) 50 o (take path (top (path + 1) v.stack_ids))) same_id opens.leads)))

  pub open_made : (k d : ℕ) → k < length (take path (top (path + 1) ids)) → IsSome (text_in (at g (get_or (take path (top (path + 1) ids)) k d)))
  open_made k d within =
      let t = taken_at path (top (path + 1) ids) k d within in
      let u = dropped_at (length ids - (path + 1)) ids k 0 t.1 in
      let len : length v.stack ≡ length ids = ap (λ (w : View). length w.stack) (sym view) ∙ length-map ids (text_of g) in
      let here : IsMade v (Stack (length ids - (path + 1) + k)) = subst (λ n. IsMade v (Stack (n - (path + 1) + k))) len (opens.made k t.0) in
      let made : made_at v (Stack (length ids - (path + 1) + k)) ≡ made_of g (get_or ids (length ids - (path + 1) + k) 0) =
      ap (λ w. made_at w (Stack (length ids - (path + 1) + k))) (sym view) ∙ made_is g st ids es (Stack (length ids - (path + 1) + k)) u.0 in
      let there : IsTrue (made_of g (get_or ids (length ids - (path + 1) + k) 0)) = subst IsTrue made here in
      subst (λ o. IsSome (text_in (at g o))) (sym (t.2 ∙ u.1)) there

-- a path of one index
pub open_one : (v : View) (place : At) (path : ℕ) → path ≡ 1 → 2 ≤ length v.stack → IsOpenAt v place path
    → IsListAt v place × IsAloneAt v place × IsMade v (Stack (length v.stack - 2)) × (depth_at v (Stack (length v.stack - 1)) < deepest)
open_one v place path is high opens =
    let first = leads_first opens.leads in
    let low : length v.stack - (path + 1) + 0 ≡ length v.stack - 2 = omega (arith, is, high) in
    (first.0, first.1, subst (λ n. IsMade v (Stack n)) low (opens.made 0 (omega (arith, is))), leads_low opens.leads)

pub one_along : {T E : Type 0} (old new : View) (place : At) (path : ℕ) (r : Result T E) → path ≡ 1 → path + 1 ≤ length old.stack
    → OnOk r (IsAloneAt old place ↔ (id_of new place ≡ id_of old place)) → OnOk r (IsListAt new place)
    → OnOk r (IsListAt old place → IsAloneAt old place → IsMade old (Stack (length old.stack - 2)) → depth_at old (Stack (length old.stack - 1)) < deepest → new.stats ≡ old.stats)
    → OnOk r (SetsAlong old place path new)
unfolding SetsAlong
one_along old new place path (Ok x) is high same listed stats =
    λ opens. let one = open_one old place path is (omega (arith, is, high)) opens in (same.0 one.1, listed, stats one.0 one.1 one.2 one.3)
one_along old new place path (Err e) is high same listed stats = tt

-- where the way isn't open
pub not_along : (old new : View) (place : At) (path : ℕ) (done : Bool) → (IsOpenAt old place path → IsTrue done) → done ≡ false → SetsAlong old place path new
unfolding SetsAlong
not_along old new place path done finds not_done = λ is. absurd (true≢false (sym (finds is) ∙ not_done))
