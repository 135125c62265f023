-- A place whose object says something else, beside places that say the same.
use Rattle.std.proofs.Common.{◌≡◌, ◌≢◌, ℕ, zero, suc, ◌+◌, ◌-◌, ◌<◌, ◌≤◌, inl, inr, List, [], ◌∷◌, map, length, get_or, set, true, false, true≢false, Bool, cond, Option, Some, None, IsSome, is_some, refl, sym, ap, subst, ◌∙◌, arith, nat_eq}
use Rattle.std.specs.Prelude.{IsTrue}
use Rattle.std.specs.Option.{option_map, unwrap_or}
use Rattle.std.specs.Map.{lookup, values_of}
use Rattle.std.specs.Cmp.{nat_cmp_total, unsigned_ties}
use Rattle.std.specs.FinMap.{get, insert, get-insert, same_map, nat_cmp-IsAntisymmetric}
use Rattle.std.proofs.lemmas.Bool.{cases_eq}
use Rattle.std.proofs.lemmas.List.{ext_get_or, get_or-map, get_or-take, get_or-set_same, get_or-set_other, length-map, length-set, length-take-le}
use Rattle.tclv_text.specs.declared.counters.Stats.{Stats}
use Rattle.tclv_heap.specs.Graph.{occurs}
use Rattle.tclv_value.specs.View.{View, HasPlace, IsMade}
use Rattle.tclv_value.specs.Changes.{IsUnder, Puts, stack_put, cells_put}
use Rattle.tclv_value.specs.Stacks.{under}
use Rattle.tclv_value.specs.Places.{text_of, made_of, by_cell, view_of, places, HasId, id_at}
use Rattle.tclv_value.specs.declared.places.At.{At}
use Rattle.tclv_value.specs.declared.places.At.TheVariants.{Stack, Cell}
use Rattle.tclv_value.proofs.CellLemmas.{get-by_cell, not_same}
use Rattle.tclv_value.proofs.HolderLemmas.{occurs-append, occurs-cons, same_self, occurs_at, occurs_found}
use Rattle.tclv_value.proofs.ViewLemmas.{G, has_id, made_is, same_view}

-- the places before and after, where n texts of the stack went, and one place says t
pub record PutsAt (g h : G) (ids ids2 : List ℕ) (es es2 : List (ℕ × ℕ)) (n : ℕ) (at : At) (t : List ℕ) : Type 0 where
  pub len : length ids2 + n ≡ length ids
  pub cells : (c : ℕ) → is_some (lookup (nat_eq c) es2) ≡ is_some (lookup (nat_eq c) es)
  pub there : HasId ids2 es2 at
  pub says : text_of h (id_at ids2 es2 at) ≡ t
  pub texts : (place : At) → place ≢ at → HasId ids2 es2 place → text_of h (id_at ids2 es2 place) ≡ text_of g (id_at ids es place)
  pub made : (place : At) → place ≢ at → HasId ids2 es2 place → IsTrue (made_of g (id_at ids es place)) → IsTrue (made_of h (id_at ids2 es2 place))

mapped : (f k : ℕ → List ℕ) (x y : Option ℕ) → is_some x ≡ is_some y → (IsSome x → f (unwrap_or x 0) ≡ k (unwrap_or y 0)) → option_map f x ≡ option_map k y
mapped f k None None same says = refl
mapped f k None (Some y) same says = absurd (cc)
mapped f k (Some x) None same says = absurd (cc)
mapped f k (Some x) (Some y) same says = ap Some (says refl)

mapped_here : (f : ℕ → List ℕ) (x : Option ℕ) (t : List ℕ) → IsSome x → f (unwrap_or x 0) ≡ t → option_map f x ≡ Some t
mapped_here f None t is says = absurd (cc)
mapped_here f (Some x) t is says = ap Some says

module _ (g h : G) {st : Stats} (ids ids2 : List ℕ) (es es2 : List (ℕ × ℕ)) (n : ℕ) (t : List ℕ) (v : View) (view : view_of g st ids es ≡ v) where
  stack_is : v.stack ≡ map (text_of g) ids
  stack_is = ap (λ (x : View). x.stack) (sym view)

  stack_len : length v.stack ≡ length ids
  stack_len = same_view g ids es v view

  module _ (at : At) (puts : PutsAt g h ids ids2 es es2 n at t) where
    below_len : length (under n v.stack) ≡ length ids2
    below_len = omega (arith, length-take-le (length v.stack - n) v.stack (omega arith), puts.len, stack_len)

    -- the text of another place of the stack
    other_text : (j : ℕ) → j < length ids2 → Stack j ≢ at → get_or (map (text_of h) ids2) j [] ≡ get_or (under n v.stack) j []
    other_text j within ne =
        get_or-map (text_of h) ids2 j 0 [] within ∙ puts.texts (Stack j) ne within ∙ sym (get_or-map (text_of g) ids j 0 [] (omega (arith, puts.len, within)))
        ∙ ap (λ xs. get_or xs j []) (sym stack_is) ∙ sym (get_or-take (length v.stack - n) v.stack j [] (omega (arith, puts.len, within, stack_len)))

    -- the text of another cell
    other_cell : (q : ℕ) → Cell q ≢ at → get (by_cell (text_of h) es2) q ≡ get v.cells q
    other_cell q ne =
        get-by_cell (text_of h) es2 q ∙ mapped (text_of h) (text_of g) (lookup (nat_eq q) es2) (lookup (nat_eq q) es) (puts.cells q) (λ there. puts.texts (Cell q) ne there)
        ∙ sym (get-by_cell (text_of g) es q) ∙ ap (λ (x : View). get x.cells q) view

  stack_new : (at : At) → PutsAt g h ids ids2 es es2 n at t → map (text_of h) ids2 ≡ stack_put (under n v.stack) at t
  stack_new (Stack i) puts =
      ext_get_or [] (map (text_of h) ids2) (set (under n v.stack) i t)
      (omega (arith, length-map ids2 (text_of h), length-set (under n v.stack) i t, below_len (Stack i) puts))
      (λ j within.
      let inside : j < length ids2 = omega (arith, within, length-map ids2 (text_of h)) in
      elim (cases_eq j i) [
        | inl e ↦
            let at_i : i < length ids2 = puts.there in
            ap (λ k. get_or (map (text_of h) ids2) k []) e ∙ get_or-map (text_of h) ids2 i 0 [] at_i ∙ puts.says
            ∙ sym (ap (λ k. get_or (set (under n v.stack) i t) k []) e ∙ get_or-set_same (under n v.stack) i t [] (omega (arith, at_i, below_len (Stack i) puts)))
        | inr ne ↦ other_text (Stack i) puts j inside (λ e. ne (stack_eq j i e)) ∙ sym (get_or-set_other (under n v.stack) i j t [] ne)
      ])
    where
      stack_number : At → ℕ
      stack_number (Stack k) = k
      stack_number (Cell k) = 0

      stack_eq : (j k : ℕ) → Stack j ≡ Stack k → j ≡ k
      stack_eq j k e = ap stack_number e
  stack_new (Cell c) puts =
      ext_get_or [] (map (text_of h) ids2) (under n v.stack) (omega (arith, length-map ids2 (text_of h), below_len (Cell c) puts))
      (λ j within. other_text (Cell c) puts j (omega (arith, within, length-map ids2 (text_of h))) (λ e. not_cell j e))
    where
      is_stack : At → Bool
      is_stack (Stack k) = true
      is_stack (Cell k) = false

      not_cell : (j : ℕ) → Stack j ≡ Cell c → ⊥
      not_cell j e = true≢false (ap is_stack e)

  cells_new : (at : At) → PutsAt g h ids ids2 es es2 n at t → by_cell (text_of h) es2 ≡ cells_put v.cells at t
  cells_new (Stack i) puts = same_map nat_cmp_total nat_cmp-IsAntisymmetric _ _ (λ q. other_cell (Stack i) puts q (λ e. not_stack q e))
    where
      is_cell : At → Bool
      is_cell (Stack k) = false
      is_cell (Cell k) = true

      not_stack : (q : ℕ) → Cell q ≡ Stack i → ⊥
      not_stack q e = true≢false (ap is_cell e)
  cells_new (Cell c) puts =
      same_map nat_cmp_total nat_cmp-IsAntisymmetric _ _
      (λ q.
      elim (cases_eq q c) [
        | inl e ↦
            ap (get (by_cell (text_of h) es2)) e ∙ get-by_cell (text_of h) es2 c ∙ mapped_here (text_of h) (lookup (nat_eq c) es2) t puts.there puts.says
            ∙ sym (ap (get (insert v.cells c t)) e ∙ get-insert nat_cmp_total v.cells c t c ∙ ap (λ b. cond b (Some t) (get v.cells c)) (sym (unsigned_ties c c) ∙ is_itself c))
        | inr ne ↦
            other_cell (Cell c) puts q (λ e. ne (cell_eq q c e))
            ∙ sym (get-insert nat_cmp_total v.cells c t q ∙ ap (λ b. cond b (Some t) (get v.cells q)) (sym (unsigned_ties q c) ∙ not_same q c ne))
      ])
    where
      cell_number : At → ℕ
      cell_number (Stack k) = 0
      cell_number (Cell k) = k

      cell_eq : (j k : ℕ) → Cell j ≡ Cell k → j ≡ k
      cell_eq j k e = ap cell_number e

      is_itself : (k : ℕ) → nat_eq k k ≡ true
      is_itself k = grind arith

  under_id : (at : At) → PutsAt g h ids ids2 es es2 n at t → (place : At) → IsUnder v n place → HasId ids2 es2 place × HasId ids es place
  under_id at puts (Stack j) is = (omega (arith, is, puts.len, stack_len), omega (arith, is, stack_len))
  under_id at puts (Cell c) is =
      let there = has_id g st ids es (Cell c) (subst (λ w. HasPlace w (Cell c)) (sym view) is.1) in
      (puts.cells c ∙ there, there)

  -- the change, as the view shows it
  pub puts_view : (st2 : Stats) (at : At) → PutsAt g h ids ids2 es es2 n at t → Puts v n at t (view_of h st2 ids2 es2)
  puts_view st2 at puts = record {
    stack = stack_new at puts;
    cells = cells_new at puts;
    stays = λ place ne is made.
        let u = under_id at puts place is in
        let was : IsTrue (made_of g (id_at ids es place)) = sym (made_is g st ids es place u.1) ∙ subst (λ w. IsMade w place) (sym view) made in
        made_is h st2 ids2 es2 place u.0 ∙ puts.made place ne u.0 was;
  }

-- an object that two places have
twice_at : (ids : List ℕ) (i j o : ℕ) → i ≢ j → i < length ids → j < length ids → get_or ids i 0 ≡ o → get_or ids j 0 ≡ o → 2 ≤ occurs o ids
twice_at [] i j o ne a b x y = absurd (omega arith)
twice_at (p ∷ ps) zero zero o ne a b x y = absurd (ne refl)
twice_at (p ∷ ps) zero (suc j) o ne a b x y = omega (arith, occurs-cons o p ps, same_self o, ap (λ z. occurs o (z ∷ [])) x, occurs-cons o p [], occurs-cons o o [], occurs_at ps j o (omega arith) y)
twice_at (p ∷ ps) (suc i) zero o ne a b x y = omega (arith, occurs-cons o p ps, same_self o, ap (λ z. occurs o (z ∷ [])) y, occurs-cons o p [], occurs-cons o o [], occurs_at ps i o (omega arith) x)
twice_at (p ∷ ps) (suc i) (suc j) o ne a b x y = omega (arith, occurs-cons o p ps, twice_at ps i j o (λ e. ne (ap suc e)) (omega arith) (omega arith) x y)

same_key : (c d k : ℕ) → nat_eq c k ≡ true → nat_eq d k ≡ true → c ≡ d
same_key c d k x y = grind arith

twice_found : (es : List (ℕ × ℕ)) (c d o : ℕ) → c ≢ d → lookup (nat_eq c) es ≡ Some o → lookup (nat_eq d) es ≡ Some o → 2 ≤ occurs o (values_of es)
twice_found [] c d o ne x y = absurd (cc)
twice_found (e ∷ es) c d o ne x y =
    elim (nat_eq c e.0) as (λ b. nat_eq c e.0 ≡ b → cond b (Some e.1) (lookup (nat_eq c) es) ≡ Some o → 2 ≤ occurs o (values_of (e ∷ es))) [
      | true ↦ λ tc xc. elim (nat_eq d e.0) as (λ b. nat_eq d e.0 ≡ b → cond b (Some e.1) (lookup (nat_eq d) es) ≡ Some o → 2 ≤ occurs o (values_of (e ∷ es))) [
        | true ↦ λ td yd. absurd (ne (same_key c d e.0 tc td))
        | false ↦ λ td yd. let first : e.1 ≡ o = cc in omega (arith, occurs-cons o e.1 (values_of es), ap (λ z. occurs o (z ∷ [])) first, occurs-cons o e.1 [], occurs-cons o o [], same_self o, occurs_found (nat_eq d) es o yd)
      ] refl y
      | false ↦ λ tc xc. elim (nat_eq d e.0) as (λ b. cond b (Some e.1) (lookup (nat_eq d) es) ≡ Some o → 2 ≤ occurs o (values_of (e ∷ es))) [
        | true ↦ λ yd. let first : e.1 ≡ o = cc in omega (arith, occurs-cons o e.1 (values_of es), ap (λ z. occurs o (z ∷ [])) first, occurs-cons o e.1 [], occurs-cons o o [], same_self o, occurs_found (nat_eq c) es o xc)
        | false ↦ λ yd. omega (arith, occurs-cons o e.1 (values_of es), twice_found es c d o ne xc yd)
      ] y
    ] refl x

found_is : (x : Option ℕ) (o : ℕ) → IsSome x → unwrap_or x 0 ≡ o → x ≡ Some o
found_is None o is e = absurd (cc)
found_is (Some x) o is e = ap Some e

pub two_places : (ids : List ℕ) (es : List (ℕ × ℕ)) (p q : At) (o : ℕ) → p ≢ q → HasId ids es p → HasId ids es q → id_at ids es p ≡ o → id_at ids es q ≡ o → 2 ≤ occurs o (places ids es)
two_places ids es (Stack i) (Stack j) o ne a b x y = omega (arith, occurs-append o ids (values_of es), twice_at ids i j o (λ e. ne (ap Stack e)) a b x y)
two_places ids es (Stack i) (Cell c) o ne a b x y = omega (arith, occurs-append o ids (values_of es), occurs_at ids i o a x, occurs_found (nat_eq c) es o (found_is _ o b y))
two_places ids es (Cell c) (Stack j) o ne a b x y = omega (arith, occurs-append o ids (values_of es), occurs_at ids j o b y, occurs_found (nat_eq c) es o (found_is _ o a x))
two_places ids es (Cell c) (Cell d) o ne a b x y = omega (arith, occurs-append o ids (values_of es), twice_found es c d o (λ e. ne (ap Cell e)) (found_is _ o a x) (found_is _ o b y))
