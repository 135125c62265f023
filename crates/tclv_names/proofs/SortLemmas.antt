-- The names of a table in order, and how many of its values pass a test.
use Rattle.std.proofs.Common.{◌≡◌, ℕ, suc, ◌+◌, ◌<◌, ◌≤◌, arith, Bool, true, false, cond, ◌&&◌, ◌||◌, is_some, List, [], ◌∷◌, ◌++◌, map, length, get_or, Option, None, Some, refl, sym, ap, subst, ◌∙◌, true≢false, nat_eq, T, IsPermutation, Bor}
use Rattle.std.specs.declared.cmp.Ordering.{Ordering}
use Rattle.std.specs.declared.cmp.Ordering.TheVariants.{Less, Equal, Greater}
use Rattle.std.specs.Ordering.{eq_by_cmp, is_eq, is_lt, ordering_reverse}
use Rattle.std.specs.Option.{option_copied}
use Rattle.std.specs.List.{list_any, filter, count_by, AllByRecursion, IsDistinct}
use Rattle.std.specs.List.Sorted.{IsSorted, IsStrictlySortedBy}
use Rattle.std.specs.Cmp.{eq_by_cmp_equiv}
use Rattle.std.specs.Cmp.Lexicographic.{pointwise, texts_ties, on_texts_equal, nat_list_cmp_total}
use Rattle.std.specs.Map.{lookup, keys_of}
use Rattle.std.specs.FinMap.{get, keys, entries, entries_sorted, find, is_sorted, contains_key-keys, get-entries, nat_cmp-IsAntisymmetric, slice_cmp-IsAntisymmetric}
use Rattle.std.specs.FinMap.Entries.{below_all, same_entries}
use Rattle.indexmap.specs.Layout.{hash_map}
use Rattle.std.proofs.lemmas.List.{get_or-map, length-map}
use Rattle.std.proofs.lemmas.List.Sorted.{list_any-IsPermutation, IsPermutation-map}
use Rattle.std.proofs.lemmas.List.Sums.{length-filter}
use Rattle.std.proofs.lemmas.Map.Entries.{sum_by_values_permutation}
use Rattle.std.proofs.lemmas.Map.Keys.{IsDistinct-IsPermutation, IsDistinct-from_sorted, apart_from_distinct, sorted_from_all_adjacent}
use Rattle.std.proofs.lemmas.Map.Lookups.{map_keys, hash_map_IsPermutation_from_get}
use Rattle.std.proofs.lemmas.Map.Made.{is_some-lookup}
use Rattle.tclv_names.specs.Keyed.{Text, by_text, Named, keyed, values_of}
use Rattle.tclv_names.proofs.KeyedLemmas.{get-named}

-- two names are the same
abbrev same : Text → Text → Bool
same = pointwise nat_eq

flips : (x y : Text) → same x y ≡ same y x
flips x y = texts_ties x y ∙ (eq_by_cmp_equiv nat_list_cmp_total).symm x y ∙ sym (texts_ties y x)

-- a list of names with nothing beside each
abbrev units : List Text → List (Text × Unit {0})
units ts = map (λ t. (t, tt)) ts

find_units : (q : Text) (ts : List Text) → find by_text q (units ts) ≡ cond (list_any (eq_by_cmp by_text q) ts) (Some tt) None
find_units q [] = refl
find_units q (t ∷ ts) = elim (eq_by_cmp by_text q t) as (λ b. cond b (Some tt) (find by_text q (units ts)) ≡ cond (b || list_any (eq_by_cmp by_text q) ts) (Some tt) None) [ true ↦ refl | false ↦ find_units q ts ]

names_back : (ts : List Text) → map (λ e. e.0) (units ts) ≡ ts
names_back [] = refl
names_back (t ∷ ts) = ap (λ xs. t ∷ xs) (names_back ts)

both : (a b : Bool) → T a → T b → T (a && b)
both true b p q = q
both false b p q = p

first : (a b : Bool) → T (a && b) → T a
first true b p = tt
first false b p = p

second : (a b : Bool) → T (a && b) → T b
second true b p = p
second false b p = absurd p

below_units : (x : Text) (ts : List Text) → AllByRecursion (λ y. by_text x y ≡ Less) ts → T (below_all by_text x (units ts))
below_units x [] h = tt
below_units x (t ∷ ts) h = both _ _ (subst (λ r. T (is_lt r)) (sym h.0) tt) (below_units x ts h.1)

sorted_units : (ts : List Text) → IsStrictlySortedBy by_text ts → T (is_sorted by_text (units ts))
unfolding IsStrictlySortedBy
sorted_units [] h = tt
sorted_units (t ∷ ts) h = both _ _ (below_units t ts h.0) (sorted_units ts h.1)

below_keys : {X : Type 0} (x : Text) (es : List (Text × X)) → T (below_all by_text x es) → T (below_all by_text x (units (map (λ e. e.0) es)))
below_keys x [] h = tt
below_keys x (e ∷ es) h = both _ _ (first _ _ h) (below_keys x es (second _ _ h))

sorted_keys : {X : Type 0} (es : List (Text × X)) → T (is_sorted by_text es) → T (is_sorted by_text (units (map (λ e. e.0) es)))
sorted_keys [] h = tt
sorted_keys (e ∷ es) h = both _ _ (below_keys e.0 es (first _ _ h)) (sorted_keys es (second _ _ h))

-- names in strict order are those of a map that has the same ones
same_names : {X : Type 0} (ts : List Text) (m : Named X) → IsStrictlySortedBy by_text ts → ((q : Text) → list_any (eq_by_cmp by_text q) ts ≡ is_some (get m q)) → ts ≡ keys m
same_names ts m s h = sym (names_back ts)
    ∙ ap (map (λ e. e.0)) (same_entries by_text nat_list_cmp_total (slice_cmp-IsAntisymmetric nat_cmp-IsAntisymmetric) (units ts) (units (keys m)) (sorted_units ts s) (sorted_keys (entries m) (entries_sorted m))
    (λ q. find_units q ts ∙ ap (λ b. cond b (Some tt) None) (h q ∙ contains_key-keys m q) ∙ sym (find_units q (keys m))))
    ∙ names_back (keys m)

less_of : (a b : Text) → is_lt (by_text b a) ≡ false → eq_by_cmp by_text a b ≡ false → by_text a b ≡ Less
less_of a b up apart = by (by_text a b) refl
  where
    by : (r : Ordering) → by_text a b ≡ r → by_text a b ≡ Less
    by Less e = e
    by Equal e = absurd (true≢false (sym (ap is_eq e) ∙ apart))
    by Greater e = absurd (true≢false (sym (ap is_lt (nat_list_cmp_total.antisymm b a ∙ ap ordering_reverse e)) ∙ up))

module _ {K : Type 0} (of : K → Text) where
  apart_mapped : (x : K) (ks : List K) → AllByRecursion (λ y. same (of x) (of y) ≡ false) ks → AllByRecursion (λ y. same (of x) y ≡ false) (map of ks)
  apart_mapped x [] h = tt
  apart_mapped x (k ∷ ks) h = (h.0, apart_mapped x ks h.1)

  distinct_mapped : (ks : List K) → IsDistinct (λ a b. same (of a) (of b)) ks → IsDistinct same (map of ks)
  unfolding IsDistinct
  distinct_mapped [] h = tt
  distinct_mapped (k ∷ ks) h = (apart_mapped k ks h.0, distinct_mapped ks h.1)

  rises : (ys : List K) → IsSorted (λ a b. by_text (of a) (of b)) ys → (k : ℕ) → k + 1 < length (map of ys) → is_lt (by_text (get_or (map of ys) (k + 1) []) (get_or (map of ys) k [])) ≡ false
  rises [] s k h = absurd (omega (arith, h))
  rises (y ∷ ys) s k h =
      let l : length (map of (y ∷ ys)) ≡ length (y ∷ ys) = length-map (y ∷ ys) of in
      let later = get_or-map of (y ∷ ys) (k + 1) y [] (omega (arith, h, l)) in
      let sooner = get_or-map of (y ∷ ys) k y [] (omega (arith, h, l)) in
      ap (λ a. is_lt (by_text a (get_or (map of (y ∷ ys)) k []))) later ∙ ap (λ b. is_lt (by_text (of (get_or (y ∷ ys) (k + 1) y)) b)) sooner ∙ s k y (omega arith) (omega (arith, h, l))

  has : (q : Text) (ks : List K) → list_any (eq_by_cmp by_text q) (map of ks) ≡ list_any (λ k. same q (of k)) ks
  has q [] = refl
  has q (k ∷ ks) = ap (λ b. b || list_any (eq_by_cmp by_text q) (map of ks)) (sym (texts_ties q (of k))) ∙ ap (λ b. same q (of k) || b) (has q ks)

  -- the names of a table, which were put in order
  pub sorted_names : {X : Type 0} (es : List (K × X)) (xs ys : List K) → IsDistinct (λ a b. same (of a) (of b)) (keys_of es) → map of xs ≡ map of (keys_of es) → IsPermutation xs ys → IsSorted (λ a b. by_text (of a) (of b)) ys
      → map of ys ≡ keys (keyed {R = by_text} of es)
  sorted_names es xs ys unique copied moved up =
      let turned = IsPermutation-map of xs ys moved in
      let distinct : IsDistinct same (map of ys) = IsDistinct-IsPermutation same flips (map of xs) (map of ys) turned (subst (IsDistinct same) (sym copied) (distinct_mapped (keys_of es) unique)) in
      same_names (map of ys) (keyed of es)
      (sorted_from_all_adjacent nat_list_cmp_total (map of ys) [] (λ k l. less_of (get_or (map of ys) k []) (get_or (map of ys) (k + 1) []) (rises ys up k l) (sym (texts_ties (get_or (map of ys) k []) (get_or (map of ys) (k + 1) [])) ∙ apart_from_distinct same (map of ys) k (k + 1) [] distinct (omega arith) l)))
      (λ q. sym (list_any-IsPermutation (eq_by_cmp by_text q) (map of xs) (map of ys) turned) ∙ ap (list_any (eq_by_cmp by_text q)) copied ∙ has q (keys_of es)
      ∙ sym (is_some-lookup (λ k. same q (of k)) es) ∙ ap is_some (sym (get-named of es q)))

  -- one more of them is copied
  pub one_copied : (xs : List K) (x : K) (left : List Text) → map of (xs ++ x ∷ []) ++ left ≡ map of xs ++ of x ∷ left
  one_copied [] x left = refl
  one_copied (y ∷ xs) x left = ap (λ ts. of y ∷ ts) (one_copied xs x left)

-- Values in another order: as many of them pass a test.
module _ {K X : Type 0} (of : K → Text) where
  abbrev named : List (K × X) → List (Text × X)
  named es = map (λ e. (of e.0, e.1)) es

  keys_named : (es : List (K × X)) → keys_of (named es) ≡ map of (keys_of es)
  keys_named [] = refl
  keys_named (e ∷ es) = ap (λ ts. of e.0 ∷ ts) (keys_named es)

  values_named : (es : List (K × X)) → map (λ e. e.1) (named es) ≡ map (λ e. e.1) es
  values_named [] = refl
  values_named (e ∷ es) = ap (λ xs. e.1 ∷ xs) (values_named es)

  lookup_named : (q : Text) (es : List (K × X)) → lookup (same q) (named es) ≡ lookup (λ k. same q (of k)) es
  lookup_named q [] = refl
  lookup_named q (e ∷ es) = ap (cond (same q (of e.0)) (Some e.1)) (lookup_named q es)

lookup_found : {X : Type 0} (q : Text) (es : List (Text × X)) → lookup (same q) es ≡ find by_text q es
lookup_found q [] = refl
lookup_found q (e ∷ es) = ap (λ b. cond b (Some e.1) (lookup (same q) es)) (texts_ties q e.0) ∙ ap (cond (eq_by_cmp by_text q e.0) (Some e.1)) (lookup_found q es)

less : (r : Ordering) → T (is_lt r) → r ≡ Less
less Less h = refl
less Equal h = absurd h
less Greater h = absurd h

all_above : {X : Type 0} (x : Text) (es : List (Text × X)) → T (below_all by_text x es) → AllByRecursion (λ y. by_text x y ≡ Less) (keys_of es)
all_above x [] h = tt
all_above x (e ∷ es) h = (less _ (first _ _ h), all_above x es (second _ _ h))

strictly : {X : Type 0} (es : List (Text × X)) → T (is_sorted by_text es) → IsStrictlySortedBy by_text (keys_of es)
unfolding IsStrictlySortedBy
strictly [] h = tt
strictly (e ∷ es) h = (all_above e.0 es (first _ _ h), strictly es (second _ _ h))

all_apart : (x : Text) (ts : List Text) → AllByRecursion (λ y. eq_by_cmp by_text x y ≡ false) ts → AllByRecursion (λ y. same x y ≡ false) ts
all_apart x [] h = tt
all_apart x (t ∷ ts) h = (texts_ties x t ∙ h.0, all_apart x ts h.1)

distinct_texts : (ts : List Text) → IsDistinct (eq_by_cmp by_text) ts → IsDistinct same ts
unfolding IsDistinct
distinct_texts [] h = tt
distinct_texts (t ∷ ts) h = (all_apart t ts h.0, distinct_texts ts h.1)

nameless : {X : Type 0} (es : List (Text × X)) → map (λ e. e.1) (map_keys {B = Unit {0}} (λ _. tt) es) ≡ map (λ e. e.1) es
nameless [] = refl
nameless (e ∷ es) = ap (λ xs. e.1 ∷ xs) (nameless es)

filter_values : {K X : Type 0} (p : X → Bool) (es : List (K × X)) → length (filter p (map (λ e. e.1) es)) ≡ length (filter (λ e. p e.1) es)
filter_values p [] = refl
filter_values p (e ∷ es) = elim (p e.1) as (λ b. length (cond b (e.1 ∷ filter p (map (λ e. e.1) es)) (filter p (map (λ e. e.1) es))) ≡ length (cond b (e ∷ filter (λ e. p e.1) es) (filter (λ e. p e.1) es))) [
  | true ↦ ap suc (filter_values p es)
  | false ↦ filter_values p es
]

-- as many of a table's values pass a test as of the map's
pub count_values : {K X : Type 0} (of : K → Text) (p : X → Bool) (es : List (K × X)) → IsDistinct (λ a b. same (of a) (of b)) (keys_of es) → length (filter (λ e. p e.1) es) ≡ length (filter p (values_of (keyed {R = by_text} of es)))
count_values {K} {X} of p es unique =
    let m : Named X = keyed of es in
    let moved = hash_map_IsPermutation_from_get (on_texts_equal (λ t. t)) (hash_map {S = Unit {0}} (named of es) tt 0) (hash_map {S = Unit {0}} (entries m) tt 0)
    (subst (IsDistinct same) (sym (keys_named of es)) (distinct_mapped of (keys_of es) unique)) (distinct_texts (keys m) (IsDistinct-from_sorted by_text (keys m) (strictly (entries m) (entries_sorted m))))
    (λ q. lookup_named of q es ∙ sym (get-named of es q) ∙ get-entries m q ∙ sym (lookup_found q (entries m))) {B = Unit {0}} (λ _. tt) (λ x y e. refl) in
    let weigh : X → ℕ = λ x. cond (p x) 1 0 in
    sym (filter_values p es) ∙ length-filter p (map (λ e. e.1) es) ∙ ap (λ xs. count_by p xs) (sym (nameless (named of es) ∙ values_named of es))
    ∙ sym (sum_by_values_permutation weigh (map_keys {B = Unit {0}} (λ _. tt) (named of es)) (map_keys {B = Unit {0}} (λ _. tt) (entries m)) moved)
    ∙ ap (λ xs. count_by p xs) (nameless (entries m)) ∙ sym (length-filter p (values_of m))

-- how many pass of a list, and of its rest
module _ {X : Type 0} (p : X → Bool) where
  pub one_passes : (x : X) (xs : List X) → p x ≡ true → length (filter p (x ∷ xs)) ≡ length (filter p xs) + 1
  one_passes x xs h = ap (λ b. length (cond b (x ∷ filter p xs) (filter p xs))) h ∙ omega arith

  pub none_passes : (x : X) (xs : List X) → p x ≡ false → length (filter p (x ∷ xs)) ≡ length (filter p xs)
  none_passes x xs h = ap (λ b. length (cond b (x ∷ filter p xs) (filter p xs))) h

  pub at_most : (xs : List X) → length (filter p xs) ≤ length xs
  at_most [] = omega arith
  at_most (x ∷ xs) = let b = at_most xs in elim (p x) as (λ b. p x ≡ b → length (filter p (x ∷ xs)) ≤ length (x ∷ xs)) [
    | true ↦ λ h. let e = one_passes x xs h in omega (arith, b, e)
    | false ↦ λ h. let e = none_passes x xs h in omega (arith, b, e)
  ] refl

pub copied_is_some : {X : Type 0} (o : Option (Bor X)) → is_some (option_copied o) ≡ is_some o
copied_is_some None = refl
copied_is_some (Some x) = refl
