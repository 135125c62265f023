-- The map from the cells' numbers to what their objects have.
use Rattle.std.proofs.Common.{◌≡◌, ◌≢◌, ℕ, ◌<◌, List, [], ◌∷◌, true, false, cond, Some, None, refl, sym, ap, ◌∙◌, arith, nat_eq}
use Rattle.std.specs.Option.{option_map}
use Rattle.std.specs.Map.{lookup, values_of}
use Rattle.std.specs.Ordering.{nat_cmp, eq_by_cmp}
use Rattle.std.specs.Cmp.{nat_cmp_total, unsigned_ties}
use Rattle.std.specs.FinMap.{get, insert, remove, get-insert, get-remove, get-empty, same_map, nat_cmp-IsAntisymmetric}
use Rattle.tclv_heap.specs.Graph.{occurs}
use Rattle.tclv_value.specs.Places.{by_cell}
use Rattle.tclv_value.proofs.HolderLemmas.{occurs-cons, same_self}

nat_eq_swap : (a b : ℕ) → nat_eq a b ≡ nat_eq b a
nat_eq_swap a b = grind arith

pub not_same : (a b : ℕ) → a ≢ b → nat_eq a b ≡ false
not_same a b ne = grind arith

module _ {X : Type 0} (f : ℕ → X) where
  pub get-by_cell : (es : List (ℕ × ℕ)) (q : ℕ) → get (by_cell f es) q ≡ option_map f (lookup (nat_eq q) es)
  get-by_cell [] q = get-empty nat_cmp q
  get-by_cell (e ∷ es) q =
      get-insert nat_cmp_total (by_cell f es) e.0 (f e.1) q ∙ ap (λ b. cond b (Some (f e.1)) (get (by_cell f es) q)) (sym (unsigned_ties q e.0))
      ∙ elim (nat_eq q e.0) as (λ b. cond b (Some (f e.1)) (get (by_cell f es) q) ≡ option_map f (cond b (Some e.1) (lookup (nat_eq q) es))) [
        | true ↦ refl
        | false ↦ get-by_cell es q
      ]

  module _ (m n : List (ℕ × ℕ)) (c : ℕ) where
    ties : (q : ℕ) → nat_eq c q ≡ eq_by_cmp nat_cmp q c
    ties q = nat_eq_swap c q ∙ unsigned_ties q c

    -- a cell that gets an object
    pub by_cell_put : (o : ℕ) → ((q : ℕ) → lookup (nat_eq q) n ≡ cond (nat_eq c q) (Some o) (lookup (nat_eq q) m)) → by_cell f n ≡ insert (by_cell f m) c (f o)
    by_cell_put o put =
        same_map nat_cmp_total nat_cmp-IsAntisymmetric _ _
        (λ q.
        get-by_cell n q ∙ ap (option_map f) (put q) ∙ elim (nat_eq c q) as (λ b. option_map f (cond b (Some o) (lookup (nat_eq q) m)) ≡ cond b (Some (f o)) (option_map f (lookup (nat_eq q) m))) [ true ↦ refl | false ↦ refl ]
        ∙ ap (λ b. cond b (Some (f o)) (option_map f (lookup (nat_eq q) m))) (ties q) ∙ ap (cond (eq_by_cmp nat_cmp q c) (Some (f o))) (sym (get-by_cell m q))
        ∙ sym (get-insert nat_cmp_total (by_cell f m) c (f o) q))

    -- a cell that goes
    pub by_cell_gone : ((q : ℕ) → lookup (nat_eq q) n ≡ cond (nat_eq c q) None (lookup (nat_eq q) m)) → by_cell f n ≡ remove (by_cell f m) c
    by_cell_gone gone =
        same_map nat_cmp_total nat_cmp-IsAntisymmetric _ _
        (λ q.
        get-by_cell n q ∙ ap (option_map f) (gone q) ∙ elim (nat_eq c q) as (λ b. option_map f (cond b None (lookup (nat_eq q) m)) ≡ cond b None (option_map f (lookup (nat_eq q) m))) [ true ↦ refl | false ↦ refl ]
        ∙ ap (λ b. cond b None (option_map f (lookup (nat_eq q) m))) (ties q) ∙ ap (cond (eq_by_cmp nat_cmp q c) None) (sym (get-by_cell m q))
        ∙ sym (get-remove nat_cmp_total (by_cell f m) c q))

-- functions that agree on the cells' objects
pub by_cell_agree : {X : Type 0} (f h : ℕ → X) (es : List (ℕ × ℕ)) → ((p : ℕ) → 0 < occurs p (values_of es) → f p ≡ h p) → by_cell f es ≡ by_cell h es
by_cell_agree f h [] agree = refl
by_cell_agree f h (e ∷ es) agree =
    let first : f e.1 ≡ h e.1 = agree e.1 (omega (arith, occurs-cons e.1 e.1 (values_of es), same_self e.1)) in
    let rest = by_cell_agree f h es (λ q i. agree q (omega (arith, i, occurs-cons q e.1 (values_of es)))) in
    ap (λ m. insert m e.0 (f e.1)) rest ∙ ap (insert (by_cell h es) e.0) first
