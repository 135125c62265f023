-- The values of a finite map, where an entry is taken out.
use Rattle.std.proofs.Common.{◌≡◌, Bool, true, false, cond, ◌&&◌, ◌||◌, ◌⊎◌, inl, inr, is_some, List, [], ◌∷◌, map, None, Some, refl, sym, ap, subst, ◌∙◌, true≢false}
use Rattle.std.specs.declared.cmp.Ordering.{Ordering}
use Rattle.std.specs.declared.cmp.Ordering.TheVariants.{Less, Equal, Greater}
use Rattle.std.specs.Ordering.{eq_by_cmp, is_eq, is_lt}
use Rattle.std.specs.Option.{unwrap_or}
use Rattle.std.specs.List.{list_any}
use Rattle.std.specs.Cmp.{IsTotalOrder, eq_by_cmp_equiv}
use Rattle.std.specs.Cmp.Lexicographic.{nat_list_cmp_total}
use Rattle.std.specs.FinMap.{FinMap, IsAntisymmetric, get, remove, empty, get-empty, entries, entries_sorted, get-entries, find, is_sorted, get-remove, nat_cmp-IsAntisymmetric, slice_cmp-IsAntisymmetric}
use Rattle.std.specs.FinMap.Entries.{below_all}
use Rattle.std.specs.Prelude.{T}
use Rattle.tclv_names.specs.Keyed.{Text, by_text, Named, values_of}

tied : (r : Ordering) → is_eq r ≡ true → r ≡ Equal
tied Less e = absurd (true≢false (sym e))
tied Equal e = refl
tied Greater e = absurd (true≢false (sym e))

less_apart : (r : Ordering) → T (is_lt r) → is_eq r ≡ false
less_apart Less h = refl
less_apart Equal h = absurd h
less_apart Greater h = absurd h

pub first : (a b : Bool) → T (a && b) → T a
first true b p = tt
first false b p = p

pub second : (a b : Bool) → T (a && b) → T b
second true b p = p
second false b p = absurd p

either : (a b : Bool) → a || b ≡ true → (a ≡ true) ⊎ (b ≡ true)
either true b h = inl refl
either false b h = inr h

left_true : (a b : Bool) → a ≡ true → a || b ≡ true
left_true a b h = ap (λ c. c || b) h

right_true : (a b : Bool) → b ≡ true → a || b ≡ true
right_true true b h = refl
right_true false b h = h

same_bool : (a b : Bool) → (a ≡ true → b ≡ true) → (b ≡ true → a ≡ true) → a ≡ b
same_bool true b f g = sym (f refl)
same_bool false true f g = g refl
same_bool false false f g = refl

not_none : {A : Type 0} {x : A} → None ≡ Some x → ⊥
not_none e = true≢false (sym (ap is_some e))

same_some : {A : Type 0} (x y : A) → Some x ≡ Some y → x ≡ y
same_some x y e = ap (λ o. unwrap_or o x) e

-- an entry whose value passes
pub record Found {K X : Type 0} (R : K → K → Ordering) (p : X → Bool) (es : List (K × X)) : Type 0 where
  pub key : K
  pub value : X
  pub at : find R key es ≡ Some value
  pub passes : p value ≡ true

module _ {K X : Type 0} {R : K → K → Ordering} (o : IsTotalOrder R) (only : IsAntisymmetric R) (p : X → Bool) where
  apart : (x k : K) → T (is_lt (R x k)) → eq_by_cmp R k x ≡ false
  apart x k h = (eq_by_cmp_equiv o).symm k x ∙ less_apart (R x k) h

  pub above_apart : (x k : K) (v : X) (es : List (K × X)) → T (below_all R x es) → find R k es ≡ Some v → eq_by_cmp R k x ≡ false
  above_apart x k v [] h f = absurd (not_none f)
  above_apart x k v (e ∷ es) h f = elim (eq_by_cmp R k e.0) as (λ b. eq_by_cmp R k e.0 ≡ b → cond b (Some e.1) (find R k es) ≡ Some v → eq_by_cmp R k x ≡ false) [
    | true ↦ λ t g. apart x k (subst (λ q. T (is_lt (R x q))) (sym (only k e.0 (tied (R k e.0) t))) (first _ _ h))
    | false ↦ λ t g. above_apart x k v es (second _ _ h) g
  ] refl f

  any_found : (es : List (K × X)) → T (is_sorted R es) → list_any p (map (λ e. e.1) es) ≡ true → Found R p es
  any_found [] s h = absurd (true≢false (sym h))
  any_found (e ∷ es) s h = elim (either (p e.1) (list_any p (map (λ e. e.1) es)) h) as (λ _. Found R p (e ∷ es)) [
    | inl l ↦ record { key = e.0; value = e.1; at = ap (λ b. cond b (Some e.1) (find R e.0 es)) ((eq_by_cmp_equiv o).refl e.0); passes = l }
    | inr r ↦ let f = any_found es (second _ _ s) r in
        record { key = f.key; value = f.value; at = ap (λ b. cond b (Some e.1) (find R f.key es)) (above_apart e.0 f.key f.value es (first _ _ s) f.at) ∙ f.at; passes = f.passes }
  ]

  found_any : (es : List (K × X)) (k : K) (v : X) → find R k es ≡ Some v → p v ≡ true → list_any p (map (λ e. e.1) es) ≡ true
  found_any [] k v f h = absurd (not_none f)
  found_any (e ∷ es) k v f h = elim (eq_by_cmp R k e.0) as (λ b. cond b (Some e.1) (find R k es) ≡ Some v → list_any p (map (λ e. e.1) (e ∷ es)) ≡ true) [
    | true ↦ λ g. left_true _ _ (ap p (same_some e.1 v g) ∙ h)
    | false ↦ λ g. right_true (p e.1) _ (found_any es k v g h)
  ] f

  module _ (m : FinMap R X) (k : K) (x : X) (at : get m k ≡ Some x) where
    forth : list_any p (values_of m) ≡ true → p x || list_any p (values_of (remove m k)) ≡ true
    forth h =
        let f = any_found (entries m) (entries_sorted m) h in
        let there = get-entries m f.key ∙ f.at in
        elim (eq_by_cmp R f.key k) as (λ b. eq_by_cmp R f.key k ≡ b → p x || list_any p (values_of (remove m k)) ≡ true) [
          | true ↦ λ t. left_true _ _ (ap p (same_some x f.value (sym at ∙ ap (get m) (sym (only f.key k (tied (R f.key k) t))) ∙ there)) ∙ f.passes)
          | false ↦ λ t. right_true (p x) _ (found_any (entries (remove m k)) f.key f.value (sym (get-entries _ f.key) ∙ get-remove o m k f.key ∙ ap (λ b. cond b None (get m f.key)) t ∙ there) f.passes)
        ] refl

    back : p x || list_any p (values_of (remove m k)) ≡ true → list_any p (values_of m) ≡ true
    back h = elim (either (p x) (list_any p (values_of (remove m k))) h) as (λ _. list_any p (values_of m) ≡ true) [
      | inl l ↦ found_any (entries m) k x (sym (get-entries m k) ∙ at) l
      | inr r ↦ let f = any_found (entries (remove m k)) (entries_sorted _) r in
          let there = sym (get-remove o m k f.key) ∙ get-entries _ f.key ∙ f.at in
          elim (eq_by_cmp R f.key k) as (λ b. cond b None (get m f.key) ≡ Some f.value → list_any p (values_of m) ≡ true) [
            | true ↦ λ g. absurd (not_none g)
            | false ↦ λ g. found_any (entries m) f.key f.value (sym (get-entries m f.key) ∙ g) f.passes
          ] there
    ]

    -- a value passes where that of the entry that goes does, or one of the rest
    pub any_removed : list_any p (values_of m) ≡ p x || list_any p (values_of (remove m k))
    any_removed = same_bool _ _ forth back

pub any_named : {X : Type 0} (p : X → Bool) (m : Named X) (k : Text) (x : X) → get m k ≡ Some x → list_any p (values_of m) ≡ p x || list_any p (values_of (remove m k))
any_named p = any_removed nat_list_cmp_total (slice_cmp-IsAntisymmetric nat_cmp-IsAntisymmetric) p

-- no value of an empty map passes
pub any_none : {X : Type 0} (p : X → Bool) → list_any p (values_of (empty {X = X} {R = by_text})) ≡ false
any_none {X} p = elim (list_any p (values_of (empty {X = X} {R = by_text}))) as (λ b. list_any p (values_of (empty {X = X} {R = by_text})) ≡ b → b ≡ false) [
  | true ↦ λ h. let f = any_found nat_list_cmp_total (slice_cmp-IsAntisymmetric nat_cmp-IsAntisymmetric) p (entries (empty {X = X} {R = by_text})) (entries_sorted (empty {X = X} {R = by_text})) h in
      absurd (not_none (sym (get-empty by_text f.key) ∙ get-entries (empty {X = X} {R = by_text}) f.key ∙ f.at))
  | false ↦ λ h. refl
] refl

-- two tests that agree at each value of a map
pub any_agrees : {X : Type 0} (p r : X → Bool) (m : Named X) → ((k : Text) (x : X) → get m k ≡ Some x → p x ≡ r x) → list_any p (values_of m) ≡ list_any r (values_of m)
any_agrees {X} p r m same = same_bool _ _ (passes p r same) (passes r p (λ k x at. sym (same k x at)))
  where
    passes : (a b : X → Bool) → ((k : Text) (x : X) → get m k ≡ Some x → a x ≡ b x) → list_any a (values_of m) ≡ true → list_any b (values_of m) ≡ true
    passes a b agree h =
        let f = any_found nat_list_cmp_total (slice_cmp-IsAntisymmetric nat_cmp-IsAntisymmetric) a (entries m) (entries_sorted m) h in
        found_any nat_list_cmp_total (slice_cmp-IsAntisymmetric nat_cmp-IsAntisymmetric) b (entries m) f.key f.value f.at (sym (agree f.key f.value (get-entries m f.key ∙ f.at)) ∙ f.passes)
