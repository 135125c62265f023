-- Finite maps that are written twice, or as they were.
use Rattle.std.proofs.Common.{◌≡◌, ◌≢◌, ℕ, Bool, true, false, cond, None, Some, refl, sym, ap, ◌∙◌, true≢false}
use Rattle.std.specs.declared.cmp.Ordering.{Ordering}
use Rattle.std.specs.declared.cmp.Ordering.TheVariants.{Less, Equal, Greater}
use Rattle.std.specs.Ordering.{eq_by_cmp, is_eq}
use Rattle.std.specs.Cmp.{IsTotalOrder, nat_cmp_total, eq_by_cmp_equiv}
use Rattle.std.specs.Cmp.Lexicographic.{nat_list_cmp_total}
use Rattle.std.specs.FinMap.{FinMap, IsAntisymmetric, get, insert, remove, empty, get-insert, get-remove, get-empty, same_map, nat_cmp-IsAntisymmetric, slice_cmp-IsAntisymmetric}
use Rattle.std.specs.Prelude.{Result, Ok, Err, OnErr}
use Rattle.tclv_names.specs.Keyed.{Text, by_text, Named, Numbers}

tied : (r : Ordering) → is_eq r ≡ true → r ≡ Equal
tied Less e = absurd (true≢false (sym e))
tied Equal e = refl
tied Greater e = absurd (true≢false (sym e))

twice : {A : Type 0} (b : Bool) (x y z : A) → cond b x (cond b y z) ≡ cond b x z
twice true x y z = refl
twice false x y z = refl

pub on_err : {A E P : Type 0} (r : Result A E) → P → OnErr r P
on_err (Ok a) p = tt
on_err (Err e) p = p

-- nothing stands in an empty table
pub absent : {X : Type 0} (q : Text) → None ≡ get (empty {X = X} {R = by_text}) q
absent q = sym (get-empty by_text q)

module _ {K : Type 0} {R : K → K → Ordering} (o : IsTotalOrder R) (only : IsAntisymmetric R) where
  itself : (k : K) → eq_by_cmp R k k ≡ true
  itself k = (eq_by_cmp_equiv o).refl k

  pub get_inserted : {X : Type 0} (m : FinMap R X) (k : K) (x : X) → get (insert m k x) k ≡ Some x
  get_inserted m k x = get-insert o m k x k ∙ ap (λ b. cond b (Some x) (get m k)) (itself k)

  pub inserted_again : {X : Type 0} (m : FinMap R X) (k : K) (x y : X) → insert (insert m k y) k x ≡ insert m k x
  inserted_again m k x y = same_map o only _ _ (λ q. get-insert o _ k x q ∙ ap (cond (eq_by_cmp R q k) (Some x)) (get-insert o m k y q) ∙ twice (eq_by_cmp R q k) (Some x) (Some y) (get m q) ∙ sym (get-insert o m k x q))

  pub inserted_same : {X : Type 0} (m : FinMap R X) (k : K) (x : X) → get m k ≡ Some x → insert m k x ≡ m
  inserted_same m k x e = same_map o only _ _ (λ q. get-insert o m k x q ∙ elim (eq_by_cmp R q k) as (λ b. eq_by_cmp R q k ≡ b → cond b (Some x) (get m q) ≡ get m q) [
    | true ↦ λ t. sym (ap (get m) (only q k (tied (R q k) t)) ∙ e)
    | false ↦ λ t. refl
  ] refl)

  pub inserted_other : {X : Type 0} (m : FinMap R X) (k : K) (x : X) (q : K) → q ≢ k → get (insert m k x) q ≡ get m q
  inserted_other m k x q ne = get-insert o m k x q ∙ elim (eq_by_cmp R q k) as (λ b. eq_by_cmp R q k ≡ b → cond b (Some x) (get m q) ≡ get m q) [
    | true ↦ λ t. absurd (ne (only q k (tied (R q k) t)))
    | false ↦ λ t. refl
  ] refl

  pub removed_inserted : {X : Type 0} (m : FinMap R X) (k : K) (x : X) → get m k ≡ None → remove (insert m k x) k ≡ m
  removed_inserted m k x none = same_map o only _ _ (λ q. get-remove o (insert m k x) k q ∙ ap (λ v. cond (eq_by_cmp R q k) None v) (get-insert o m k x q)
      ∙ elim (eq_by_cmp R q k) as (λ b. eq_by_cmp R q k ≡ b → cond b None (cond b (Some x) (get m q)) ≡ get m q) [
        | true ↦ λ t. sym (ap (get m) (only q k (tied (R q k) t)) ∙ none)
        | false ↦ λ t. refl
      ] refl)

  pub removed_over : {X : Type 0} (m : FinMap R X) (k : K) (x : X) → remove (insert m k x) k ≡ remove m k
  removed_over m k x = same_map o only _ _ (λ q. get-remove o (insert m k x) k q ∙ ap (λ v. cond (eq_by_cmp R q k) None v) (get-insert o m k x q)
      ∙ twice (eq_by_cmp R q k) None (Some x) (get m q) ∙ sym (get-remove o m k q))

module _ {X : Type 0} (m : Numbers X) (n : ℕ) (x : X) where
  pub number_there : get (insert m n x) n ≡ Some x
  number_there = get_inserted nat_cmp_total nat_cmp-IsAntisymmetric m n x

  pub number_again : (y : X) → insert (insert m n y) n x ≡ insert m n x
  number_again y = inserted_again nat_cmp_total nat_cmp-IsAntisymmetric m n x y

  pub number_same : get m n ≡ Some x → insert m n x ≡ m
  number_same = inserted_same nat_cmp_total nat_cmp-IsAntisymmetric m n x

  pub number_other : (q : ℕ) → q ≢ n → get (insert m n x) q ≡ get m q
  number_other = inserted_other nat_cmp_total nat_cmp-IsAntisymmetric m n x

  pub number_over : remove (insert m n x) n ≡ remove m n
  number_over = removed_over nat_cmp_total nat_cmp-IsAntisymmetric m n x

  pub number_removed : get m n ≡ None → remove (insert m n x) n ≡ m
  number_removed = removed_inserted nat_cmp_total nat_cmp-IsAntisymmetric m n x

module _ {X : Type 0} (m : Named X) (n : Text) (x : X) where
  pub text_removed : get m n ≡ None → remove (insert m n x) n ≡ m
  text_removed = removed_inserted nat_list_cmp_total (slice_cmp-IsAntisymmetric nat_cmp-IsAntisymmetric) m n x

  pub text_there : get (insert m n x) n ≡ Some x
  text_there = get_inserted nat_list_cmp_total (slice_cmp-IsAntisymmetric nat_cmp-IsAntisymmetric) m n x
