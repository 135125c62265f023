-- Pairs with a key put.
use Rattle.std.proofs.Common.{◌≡◌, ℕ, true, false, cond, List, [], ◌∷◌, ◌++◌, Some, None, sym, ap, ◌∙◌, subst, refl}
use Rattle.std.proofs.lemmas.Bool.{cases_Bool, cond-true, cond-false, false_from_ne_true, false≢true}
use Rattle.std.proofs.lemmas.List.{map-append}
use Rattle.std.proofs.lemmas.Map.{keys-set_value}
use Rattle.std.proofs.lemmas.Slice.Eq.{bytes_eq-Decides}
use Rattle.std.specs.Prelude.{is_some, ◌≢◌}
use Rattle.std.specs.List.{IsDistinct, AllByRecursion}
use Rattle.std.specs.Map.{lookup, set_value, keys_of}
use Rattle.std.specs.Str.{bytes_eq}
use mathlib.Core.Logic.{⊎_elim}
use Rattle.tclv_text.specs.Pairs.{Pairs, value_of, put, put_all, pairs_of}

same : (k : List ℕ) → bytes_eq k k ≡ true
same k = (bytes_eq-Decides k k).1 refl

apart : (k l : List ℕ) → (k ≡ l → ⊥) → bytes_eq k l ≡ false
apart k l h = false_from_ne_true _ (λ e. h ((bytes_eq-Decides k l).0 e))

-- one pair after another
put_on : (k v : List ℕ) (e : List ℕ × List ℕ) (es : Pairs) → put k v (e ∷ es) ≡ cond (bytes_eq k e.0) ((e.0, v) ∷ es) (e ∷ put k v es)
unfolding put
put_on k v e es =
    let found = is_some (lookup (bytes_eq k) es) in
    let set = set_value (bytes_eq k) es v in
    let more = es ++ (k, v) ∷ [] in
    elim (bytes_eq k e.0) as (λ b. cond (is_some (cond b (Some e.1) (lookup (bytes_eq k) es))) (cond b ((e.0, v) ∷ es) (e ∷ set)) (e ∷ more) ≡ cond b ((e.0, v) ∷ es) (e ∷ cond found set more)) [
      | true ↦ refl
      | false ↦ elim found as (λ b. cond b (e ∷ set) (e ∷ more) ≡ e ∷ cond b set more) [ true ↦ refl | false ↦ refl ]
    ]

put_here : (k v : List ℕ) (e : List ℕ × List ℕ) (es : Pairs) → bytes_eq k e.0 ≡ true → put k v (e ∷ es) ≡ (e.0, v) ∷ es
put_here k v e es q = put_on k v e es ∙ cond-true _ _ _ q

put_later : (k v : List ℕ) (e : List ℕ × List ℕ) (es : Pairs) → bytes_eq k e.0 ≡ false → put k v (e ∷ es) ≡ e ∷ put k v es
put_later k v e es q = put_on k v e es ∙ cond-false _ _ _ q

put_first : (k v : List ℕ) → put k v [] ≡ (k, v) ∷ []
unfolding put
put_first k v = refl

pub put_read : (k v : List ℕ) (d : Pairs) → value_of k (put k v d) ≡ Some v
put_read k v [] = ap (value_of k) (put_first k v) ∙ cond-true _ _ _ (same k)
put_read k v (e ∷ es) =
    ⊎_elim
    (λ (q : bytes_eq k e.0 ≡ true). ap (value_of k) (put_here k v e es q) ∙ cond-true _ _ _ q)
    (λ (q : bytes_eq k e.0 ≡ false). ap (value_of k) (put_later k v e es q) ∙ cond-false _ _ _ q ∙ put_read k v es)
    (cases_Bool (bytes_eq k e.0))

pub others_read : (k v l : List ℕ) (d : Pairs) → l ≢ k → value_of l (put k v d) ≡ value_of l d
others_read k v l [] h = ap (value_of l) (put_first k v) ∙ cond-false _ _ _ (apart l k h)
others_read k v l (e ∷ es) h =
    ⊎_elim
    (λ (q : bytes_eq k e.0 ≡ true).
    let n : bytes_eq l e.0 ≡ false = apart l e.0 (λ p. h (p ∙ sym ((bytes_eq-Decides k e.0).0 q))) in
    ap (value_of l) (put_here k v e es q) ∙ cond-false _ _ _ n ∙ sym (cond-false _ _ _ n))
    (λ (q : bytes_eq k e.0 ≡ false). ap (value_of l) (put_later k v e es q) ∙ ap (cond (bytes_eq l e.0) (Some e.1)) (others_read k v l es h))
    (cases_Bool (bytes_eq k e.0))

pub place_kept : (k v w : List ℕ) (d : Pairs) → value_of k d ≡ Some w → keys_of (put k v d) ≡ keys_of d
unfolding put
place_kept k v w d e = ap keys_of (cond-true (is_some (value_of k d)) _ _ (ap is_some e)) ∙ keys-set_value (bytes_eq k) d v

pub put_last : (k v : List ℕ) (d : Pairs) → value_of k d ≡ None → keys_of (put k v d) ≡ keys_of d ++ k ∷ []
unfolding put
put_last k v d e = ap keys_of (cond-false (is_some (value_of k d)) _ _ (ap is_some e)) ∙ map-append (λ (p : List ℕ × List ℕ). p.0) d ((k, v) ∷ [])

-- what holds of the key and of the others holds of all
all_put : (P : List ℕ → Type 0) (k v : List ℕ) (d : Pairs) → AllByRecursion P (keys_of d) → P k → AllByRecursion P (keys_of (put k v d))
all_put P k v [] h p = subst (λ d. AllByRecursion P (keys_of d)) (sym (put_first k v)) (p, tt)
all_put P k v (e ∷ es) h p =
    ⊎_elim
    (λ (q : bytes_eq k e.0 ≡ true). subst (λ d. AllByRecursion P (keys_of d)) (sym (put_here k v e es q)) h)
    (λ (q : bytes_eq k e.0 ≡ false). subst (λ d. AllByRecursion P (keys_of d)) (sym (put_later k v e es q)) (h.0, all_put P k v es h.1 p))
    (cases_Bool (bytes_eq k e.0))

distinct_put : (k v : List ℕ) (d : Pairs) → IsDistinct bytes_eq (keys_of d) → IsDistinct bytes_eq (keys_of (put k v d))
unfolding IsDistinct
distinct_put k v [] h = subst (λ d. IsDistinct bytes_eq (keys_of d)) (sym (put_first k v)) (tt, tt)
distinct_put k v (e ∷ es) h =
    ⊎_elim
    (λ (q : bytes_eq k e.0 ≡ true). subst (λ d. IsDistinct bytes_eq (keys_of d)) (sym (put_here k v e es q)) h)
    (λ (q : bytes_eq k e.0 ≡ false).
    let n : bytes_eq e.0 k ≡ false = apart e.0 k (λ p. false≢true (sym q ∙ ap (bytes_eq k) p ∙ same k)) in
    subst (λ d. IsDistinct bytes_eq (keys_of d)) (sym (put_later k v e es q)) (all_put (λ y. bytes_eq e.0 y ≡ false) k v es h.0 n, distinct_put k v es h.1))
    (cases_Bool (bytes_eq k e.0))

all_distinct : (ts : List (List ℕ)) (c d : Pairs) → IsDistinct bytes_eq (keys_of c) → put_all c ts ≡ Some d → IsDistinct bytes_eq (keys_of d)
all_distinct [] c d h e = let q : c ≡ d = cc in subst (λ x. IsDistinct bytes_eq (keys_of x)) q h
all_distinct (k ∷ []) c d h e = absurd (cc)
all_distinct (k ∷ v ∷ ts) c d h e = all_distinct ts (put k v c) d (distinct_put k v c h) e

pub keys_distinct : (ts : List (List ℕ)) (d : Pairs) → pairs_of ts ≡ Some d → IsDistinct bytes_eq (keys_of d)
unfolding IsDistinct
keys_distinct ts d e = all_distinct ts [] d tt e
