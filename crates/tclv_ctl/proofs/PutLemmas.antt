-- Laws of pairs into which one is put, and of texts two by two.
use Rattle.std.proofs.Common.{◌≡◌, ℕ, suc, ◌+◌, ◌*◌, ◌<◌, ◌≤◌, Bool, true, false, cond, List, [], ◌∷◌, ◌++◌, length, take, drop, get_or, IsTrue, Option, Some, None, Result, Ok, Err, refl, sym, ap, ◌∙◌, arith, append_assoc}
use Rattle.std.specs.Prelude.{is_some, slice_set, ◌↔◌}
use Rattle.std.specs.Map.{lookup, set_value}
use Rattle.std.specs.Str.{bytes_eq}
use Rattle.std.proofs.lemmas.Bool.{cond-true, cond-false}
use Rattle.std.proofs.lemmas.Bool.Decides.{same_from_decides}
use Rattle.std.proofs.lemmas.Slice.Eq.{bytes_eq-Decides}
use Rattle.std.proofs.lemmas.List.{drop_more, take_more, take_all, drop_all, length-drop, set_split}
use Rattle.std.specs.Option.{ok_or}
use Rattle.tclv_text.specs.Lists.{ListFlaw, MissingBrace, MissingQuote, TextAfterBrace, TextAfterQuote}
use Rattle.tclv_text.specs.Elements.{elements}
use Rattle.tclv_text.specs.Pairs.{Pairs, NoList, MissingValue, put, put_all, pairs_of, pairs_of_list}
use Rattle.tclv_model.specs.Rows.{and_then}
use Rattle.tclv_model.specs.Values.{dict_of, dict_read, list_of, list_read, no_list}
use Rattle.tclv_ctl.specs.Switching.{Text}
use Rattle.tclv_ctl.specs.Returns.{paired}

put_on : (k v : Text) (e : Text × Text) (es : Pairs) → put k v (e ∷ es) ≡ cond (bytes_eq k e.0) ((e.0, v) ∷ es) (e ∷ put k v es)
unfolding put
put_on k v e es =
    let found = is_some (lookup (bytes_eq k) es) in
    let set = set_value (bytes_eq k) es v in
    let more = es ++ (k, v) ∷ [] in
    elim (bytes_eq k e.0) as (λ b. cond (is_some (cond b (Some e.1) (lookup (bytes_eq k) es))) (cond b ((e.0, v) ∷ es) (e ∷ set)) (e ∷ more) ≡ cond b ((e.0, v) ∷ es) (e ∷ cond found set more)) [
      | true ↦ refl
      | false ↦ elim found as (λ b. cond b (e ∷ set) (e ∷ more) ≡ e ∷ cond b set more) [ true ↦ refl | false ↦ refl ]
    ]

put_last : (k v : Text) → put k v [] ≡ (k, v) ∷ []
unfolding put
put_last k v = refl

-- The pairs up to a place have other keys.
abbrev pub Passed : Text → Text → Pairs → ℕ → Type 0
Passed key value ps k = put key value ps ≡ take k ps ++ put key value (drop k ps)

pub none_passed : (key value : Text) (ps : Pairs) → Passed key value ps 0
none_passed key value ps = refl

pub passed_more : (key value : Text) (ps : Pairs) (k : ℕ) (d : Text × Text) → k < length ps → bytes_eq key (get_or ps k d).0 ≡ false → Passed key value ps k → Passed key value ps (k + 1)
passed_more key value ps k d h e p =
    let x = get_or ps k d in
    let rest = drop (k + 1) ps in
    p ∙ ap (λ (qs : Pairs). take k ps ++ put key value qs) (drop_more ps k d h)
    ∙ ap (λ (qs : Pairs). take k ps ++ qs) (put_on key value x rest ∙ cond-false _ _ _ e)
    ∙ sym (append_assoc (take k ps) (x ∷ []) (put key value rest))
    ∙ ap (λ (qs : Pairs). qs ++ put key value rest) (sym (take_more ps k d h))

pub put_there : (key value : Text) (ps : Pairs) (k : ℕ) (d : Text × Text) → k < length ps → bytes_eq key (get_or ps k d).0 ≡ true → Passed key value ps k → put key value ps ≡ take k ps ++ ((get_or ps k d).0, value) ∷ drop (k + 1) ps
put_there key value ps k d h e p =
    p ∙ ap (λ (qs : Pairs). take k ps ++ put key value qs) (drop_more ps k d h)
    ∙ ap (λ (qs : Pairs). take k ps ++ qs) (put_on key value (get_or ps k d) (drop (k + 1) ps) ∙ cond-true _ _ _ e)

-- whether a key is the one that is put
pub same_text : (key : Text) (r : Bool) (x : Text) → IsTrue r ↔ (x ≡ key) → r ≡ bytes_eq key x
same_text key r x d = same_from_decides r (bytes_eq key x) ((λ t. sym (d.0 t)), (λ e. d.1 (sym e))) (bytes_eq-Decides key x)

-- the same where the pair that is read has this name
pub put_set : (key value : Text) (ps n : Pairs) (k : ℕ) (e : Text × Text) → n ≡ ps → k < length ps → e ≡ get_or n k e → bytes_eq key (get_or ps k e).0 ≡ true → Passed key value ps k → slice_set n k (e.0, value) ≡ put key value ps
put_set key value ps n k e s h i t p =
    let next : suc k ≡ k + 1 = omega arith in
    let is : e ≡ get_or ps k e = i ∙ ap (λ (qs : Pairs). get_or qs k e) s in
    ap (λ (qs : Pairs). slice_set qs k (e.0, value)) s ∙ set_split ps k (e.0, value) h ∙ ap (λ (j : ℕ). take k ps ++ (e.0, value) ∷ drop j ps) next
    ∙ ap (λ (x : Text × Text). take k ps ++ (x.0, value) ∷ drop (k + 1) ps) is ∙ sym (put_there key value ps k e h t p)

pub put_new : (key value : Text) (ps : Pairs) (k : ℕ) → length ps ≤ k → Passed key value ps k → put key value ps ≡ ps ++ (key, value) ∷ []
put_new key value ps k h p =
    p ∙ ap (λ (qs : Pairs). take k ps ++ put key value qs) (drop_all k ps h) ∙ ap (λ (qs : Pairs). take k ps ++ qs) (put_last key value) ∙ ap (λ (qs : Pairs). qs ++ (key, value) ∷ []) (take_all k ps h)

-- two texts more are put
pub put_two : (ts : List Text) (k : ℕ) (ps : Pairs) → 2 * k + 1 < length ts → put_all ps (drop (2 * k) ts) ≡ put_all (put (get_or ts (2 * k) []) (get_or ts (2 * k + 1) []) ps) (drop (2 * (k + 1)) ts)
put_two ts k ps h =
    let next : 2 * k + 1 + 1 ≡ 2 * (k + 1) = omega arith in
    ap (put_all ps) (drop_more ts (2 * k) [] (omega arith) ∙ ap (λ (t : List Text). get_or ts (2 * k) [] ∷ t) (drop_more ts (2 * k + 1) [] h))
    ∙ ap (λ (i : ℕ). put_all (put (get_or ts (2 * k) []) (get_or ts (2 * k + 1) []) ps) (drop i ts)) next

-- one text, or none, is left
none_left : (ps : Pairs) (ts : List Text) → length ts ≡ 0 → put_all ps ts ≡ Some ps
none_left ps [] h = refl
none_left ps (t ∷ ts) h = absurd (omega arith)

one_left : (ps : Pairs) (ts : List Text) → length ts ≡ 1 → put_all ps ts ≡ None
one_left ps [] h = absurd (omega arith)
one_left ps (t ∷ []) h = refl
one_left ps (t ∷ u ∷ ts) h = absurd (omega arith)

pub all_put : (ps : Pairs) (ts : List Text) (k : ℕ) → length ts ≡ 2 * k → put_all ps (drop (2 * k) ts) ≡ Some ps
all_put ps ts k h = none_left ps (drop (2 * k) ts) (length-drop (2 * k) ts ∙ omega (arith, h))

pub last_alone : (ps : Pairs) (ts : List Text) (k : ℕ) → length ts ≡ 2 * k + 1 → put_all ps (drop (2 * k) ts) ≡ None
last_alone ps ts k h = one_left ps (drop (2 * k) ts) (length-drop (2 * k) ts ∙ omega (arith, h))

list_refused : (flaw : ListFlaw) → dict_read (Err (NoList flaw)) ≡ and_then (no_list flaw) (λ (ts : List Text). paired (pairs_of ts))
list_refused MissingBrace = refl
list_refused MissingQuote = refl
list_refused (TextAfterBrace rest) = refl
list_refused (TextAfterQuote rest) = refl

some_pairs : (x : Option Pairs) → dict_read (ok_or x MissingValue) ≡ paired x
some_pairs None = refl
some_pairs (Some ps) = refl

read_pairs : (r : Result (List Text) ListFlaw) → dict_read (pairs_of_list r) ≡ and_then (list_read r) (λ (ts : List Text). paired (pairs_of ts))
read_pairs (Ok ts) = some_pairs (pairs_of ts)
read_pairs (Err flaw) = list_refused flaw

-- a dict is read by its list
pub dict_by_list : (t : Text) → dict_of t ≡ and_then (list_of t) (λ (ts : List Text). paired (pairs_of ts))
dict_by_list t = read_pairs (elements t)
