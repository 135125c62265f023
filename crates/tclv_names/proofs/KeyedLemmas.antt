-- What the calls of an index map do to the finite map that it is seen as.
use Rattle.std.proofs.Common.{◌≡◌, ℕ, Bool, true, false, cond, List, [], ◌∷◌, ◌++◌, is_some, Option, None, Some, refl, sym, ap, ◌∙◌, true≢false, nat_eq}
use Rattle.std.specs.declared.cmp.Ordering.{Ordering}
use Rattle.std.specs.declared.cmp.Ordering.TheVariants.{Less, Equal, Greater}
use Rattle.std.specs.Ordering.{nat_cmp, eq_by_cmp, is_eq}
use Rattle.std.specs.Cmp.{IsTotalOrder, eq_by_cmp_equiv, nat_cmp_total, unsigned_ties}
use Rattle.std.specs.Cmp.Lexicographic.{pointwise, texts_ties, nat_list_cmp_total}
use Rattle.std.specs.FinMap.{IsAntisymmetric, get, insert, remove, get-insert, get-remove, get-empty, same_map, nat_cmp-IsAntisymmetric, slice_cmp-IsAntisymmetric}
use Rattle.std.specs.Map.{lookup, KeepsOthers}
use Rattle.indexmap.specs.IndexMap.{IndexMap, UpdatesBy}
use Rattle.tclv_names.specs.Keyed.{Text, by_text, keyed}

tied : (r : Ordering) → is_eq r ≡ true → r ≡ Equal
tied Less e = absurd (true≢false (sym e))
tied Equal e = refl
tied Greater e = absurd (true≢false (sym e))

module _ {K T : Type 0} {R : T → T → Ordering} (o : IsTotalOrder R) (only : IsAntisymmetric R) (of : K → T) (same : T → T → Bool) (ties : (x y : T) → same x y ≡ eq_by_cmp R x y) where
  pub get-keyed : {X : Type 0} (es : List (K × X)) (q : T) → get (keyed {R = R} of es) q ≡ lookup (λ k. same q (of k)) es
  get-keyed [] q = get-empty R q
  get-keyed (e ∷ es) q = get-insert o (keyed of es) (of e.0) e.1 q ∙ ap (λ b. cond b (Some e.1) (get (keyed {R = R} of es) q)) (sym (ties q (of e.0)))
      ∙ ap (cond (same q (of e.0)) (Some e.1)) (get-keyed es q)

  is : (x y : T) → same x y ≡ true → x ≡ y
  is x y e = only x y (tied (R x y) (sym (ties x y) ∙ e))

  module _ {X S : Type 0} (m n : IndexMap K X S) (name : T) (w : Option X) (u : UpdatesBy (λ a b. same (of a) (of b)) (λ k. same name (of k)) m n w) where
    others : (q : T) → eq_by_cmp R q name ≡ false → lookup (λ k. same q (of k)) n.entries ≡ lookup (λ k. same q (of k)) m.entries
    unfolding KeepsOthers
    others q e = u.3 (λ k. same q (of k)) (λ x y h. ap (λ t. same t (of y)) (is q (of x) h)) (λ k h. ap (same q) (sym (is name (of k) h)) ∙ ties q name ∙ e)

    pub get-keyed_updates : (q : T) → get (keyed {R = R} of n.entries) q ≡ cond (eq_by_cmp R q name) w (get (keyed {R = R} of m.entries) q)
    get-keyed_updates q = elim (eq_by_cmp R q name) as (λ b. eq_by_cmp R q name ≡ b → get (keyed {R = R} of n.entries) q ≡ cond b w (get (keyed {R = R} of m.entries) q)) [
      | true ↦ λ e. get-keyed n.entries q ∙ ap (λ t. lookup (λ k. same t (of k)) n.entries) (only q name (tied (R q name) e)) ∙ u.1
      | false ↦ λ e. get-keyed n.entries q ∙ others q e ∙ sym (get-keyed m.entries q)
    ] refl

    pub keyed_removed : w ≡ None → keyed {R = R} of n.entries ≡ remove (keyed of m.entries) name
    keyed_removed e = same_map o only _ _ (λ q. get-keyed_updates q ∙ ap (λ v. cond (eq_by_cmp R q name) v (get (keyed {R = R} of m.entries) q)) e ∙ sym (get-remove o _ name q))

    pub keyed_inserted : (v : X) → w ≡ Some v → keyed {R = R} of n.entries ≡ insert (keyed of m.entries) name v
    keyed_inserted v e = same_map o only _ _ (λ q. get-keyed_updates q ∙ ap (λ x. cond (eq_by_cmp R q name) x (get (keyed {R = R} of m.entries) q)) e ∙ sym (get-insert o _ name v q))

module _ {K : Type 0} (of : K → Text) where
  pub get-named : {X : Type 0} (es : List (K × X)) (q : Text) → get (keyed {R = by_text} of es) q ≡ lookup (λ k. pointwise nat_eq q (of k)) es
  get-named = get-keyed nat_list_cmp_total (slice_cmp-IsAntisymmetric nat_cmp-IsAntisymmetric) of (pointwise nat_eq) texts_ties

  module _ {X S : Type 0} (m n : IndexMap K X S) (name : Text) where
    pub named_inserted : (v : X) → UpdatesBy (λ a b. pointwise nat_eq (of a) (of b)) (λ k. pointwise nat_eq name (of k)) m n (Some v) → keyed {R = by_text} of n.entries ≡ insert (keyed of m.entries) name v
    named_inserted v u = keyed_inserted nat_list_cmp_total (slice_cmp-IsAntisymmetric nat_cmp-IsAntisymmetric) of (pointwise nat_eq) texts_ties m n name (Some v) u v refl

    pub named_removed : UpdatesBy (λ a b. pointwise nat_eq (of a) (of b)) (λ k. pointwise nat_eq name (of k)) m n None → keyed {R = by_text} of n.entries ≡ remove (keyed of m.entries) name
    named_removed u = keyed_removed nat_list_cmp_total (slice_cmp-IsAntisymmetric nat_cmp-IsAntisymmetric) of (pointwise nat_eq) texts_ties m n name None u refl

lookup_last : {K X : Type 0} (test : K → Bool) (es : List (K × X)) (k : K) (x : X) → lookup test es ≡ None → test k ≡ true → lookup test (es ++ (k, x) ∷ []) ≡ Some x
lookup_last test [] k x n t = ap (λ b. cond b (Some x) None) t
lookup_last test (e ∷ es) k x n t = elim (test e.0) as (λ b. cond b (Some e.1) (lookup test es) ≡ None → cond b (Some e.1) (lookup test (es ++ (k, x) ∷ [])) ≡ Some x) [
  | true ↦ λ h. absurd (true≢false (ap is_some h))
  | false ↦ λ h. lookup_last test es k x h t
] n

-- the last entry, whose key stands nowhere before it
pub last_named : {K X : Type 0} (of : K → Text) (es fs : List (K × X)) (k : K) (x : X) → es ≡ fs ++ (k, x) ∷ [] → lookup (λ a. pointwise nat_eq (of k) (of a)) fs ≡ None → get (keyed {R = by_text} of es) (of k) ≡ Some x
last_named of es fs k x e n = get-named of es (of k) ∙ ap (lookup (λ a. pointwise nat_eq (of k) (of a))) e ∙ lookup_last _ fs k x n (texts_ties (of k) (of k) ∙ (eq_by_cmp_equiv nat_list_cmp_total).refl (of k))

pub get-numbered : {X : Type 0} (es : List (ℕ × X)) (q : ℕ) → get (keyed {R = nat_cmp} (λ k. k) es) q ≡ lookup (nat_eq q) es
get-numbered = get-keyed nat_cmp_total nat_cmp-IsAntisymmetric (λ k. k) nat_eq unsigned_ties

module _ {X S : Type 0} (m n : IndexMap ℕ X S) (name : ℕ) where
  pub numbered_inserted : (v : X) → UpdatesBy nat_eq (nat_eq name) m n (Some v) → keyed {R = nat_cmp} (λ k. k) n.entries ≡ insert (keyed (λ k. k) m.entries) name v
  numbered_inserted v u = keyed_inserted nat_cmp_total nat_cmp-IsAntisymmetric (λ k. k) nat_eq unsigned_ties m n name (Some v) u v refl

  pub numbered_removed : UpdatesBy nat_eq (nat_eq name) m n None → keyed {R = nat_cmp} (λ k. k) n.entries ≡ remove (keyed (λ k. k) m.entries) name
  numbered_removed u = keyed_removed nat_cmp_total nat_cmp-IsAntisymmetric (λ k. k) nat_eq unsigned_ties m n name None u refl
