-- Laws of the elements that are given of those in order, and of entries that stand for elements.
use Rattle.std.proofs.Common.{◌≡◌, ℕ, zero, suc, ◌+◌, ◌-◌, ◌<◌, ◌≤◌, Bool, true, false, cond, ltb, List, [], ◌∷◌, ◌++◌, length, take, drop, map, get_or, Option, Some, None, refl, sym, ap, ap₂, ◌∙◌, arith, append_assoc}
use Rattle.std.specs.Prelude.{ℤ, pos, negsuc, slice_get}
use Rattle.std.specs.Option.{option_map, ForSome}
use Rattle.std.proofs.lemmas.List.{drop_more, drop_at, length-drop, length-take, length-append, take_all, take-take, get_or-take, get_or-drop}
use Rattle.std.proofs.lemmas.Bool.{ltb-false}
use Rattle.tclv_model.specs.Rows.{Answer, RowAnswer, Gives, Refuses, and_then}
use Rattle.tclv_lists.specs.Paths.{element}
use Rattle.tclv_reply.specs.Places.{place_among}
use Rattle.tclv_lists.specs.declared.sorting.Key.{Key}
use Rattle.tclv_lists.specs.declared.sorting.Order.{Order}
use Rattle.tclv_lists.specs.declared.sorting.Entry.{Entry}
use Rattle.tclv_lists.specs.Sorting.{is_given, given, in_order, entry_before, pair_before, text_in, pair_of, sorted_texts, order_options, sorted_of, row_lsort}
use Rattle.tclv_lists.proofs.SortLemmas.{in_order_mapped}
use Rattle.tclv_reply.proofs.Laws.{word_kept}

module _ {X : Type 0} (before : X → X → Bool) where
  pub given_plain : (es : List X) (k : ℕ) (unique : Bool) → unique ≡ false → k < length es → is_given unique before (drop k es) ≡ true
  given_plain es k unique e h = at (drop k es) e (omega (arith, length-drop k es))
    where
      at : (ds : List X) → unique ≡ false → 0 < length ds → is_given unique before ds ≡ true
      at [] e h = absurd (omega arith)
      at (d ∷ []) e h = refl
      at (d ∷ f ∷ ds) e h = ap (λ b. cond b (before d f) true) e

  pub given_last : (es : List X) (k : ℕ) (unique : Bool) → k + 1 ≡ length es → is_given unique before (drop k es) ≡ true
  given_last es k unique e = at (drop k es) (omega (arith, length-drop k es, e))
    where
      at : (ds : List X) → length ds ≡ 1 → is_given unique before ds ≡ true
      at [] h = absurd (omega arith)
      at (d ∷ []) h = refl
      at (d ∷ f ∷ ds) h = absurd (omega arith)

  -- what is given from a place on
  pub given_step : (unique : Bool) (es : List X) (k : ℕ) (d : X) (b : Bool) → k < length es → is_given unique before (drop k es) ≡ b →
      given unique before (drop k es) ≡ cond b (get_or es k d ∷ given unique before (drop (k + 1) es)) (given unique before (drop (k + 1) es))
  given_step unique es k d b h e =
      let s = drop_more es k d h in
      ap (given unique before) s
      ∙ ap (λ (c : Bool). cond c (get_or es k d ∷ given unique before (drop (k + 1) es)) (given unique before (drop (k + 1) es))) (sym (ap (is_given unique before) s) ∙ e)

  -- the one at a place is not given
  pub passed : (unique : Bool) (es : List X) (k : ℕ) → k < length es → is_given unique before (drop k es) ≡ false → given unique before (drop k es) ≡ given unique before (drop (k + 1) es)
  passed unique [] k h e = absurd (omega arith)
  passed unique (x ∷ xs) k h e = given_step unique (x ∷ xs) k x false h e

module _ {X Y : Type 0} (f : X → Y) (lt : X → X → Bool) (below : Y → Y → Bool) (like : (a b : X) → lt a b ≡ below (f a) (f b)) (unique : Bool) where
  is_given_mapped : (e : X) (es : List X) → is_given unique lt (e ∷ es) ≡ is_given unique below (f e ∷ map f es)
  is_given_mapped e [] = refl
  is_given_mapped e (g ∷ es) = ap (λ b. cond unique b true) (like e g)

  at_mapped : (e : X) (es : List X) (b : Bool) → map f (given unique lt es) ≡ given unique below (map f es) → map f (cond b (e ∷ given unique lt es) (given unique lt es)) ≡ cond b (f e ∷ given unique below (map f es)) (given unique below (map f es))
  at_mapped e es true i = ap (λ l. f e ∷ l) i
  at_mapped e es false i = i

  given_mapped : (es : List X) → map f (given unique lt es) ≡ given unique below (map f es)
  given_mapped [] = refl
  given_mapped (e ∷ es) =
      at_mapped e es (is_given unique lt (e ∷ es)) (given_mapped es)
      ∙ ap (λ b. cond b (f e ∷ given unique below (map f es)) (given unique below (map f es))) (is_given_mapped e es)

texts_of : (q : List (List ℕ)) (xs : List Entry) → map (text_in q) xs ≡ map (λ (e : Key × List ℕ). e.1) (map (pair_of q) xs)
texts_of q [] = refl
texts_of q (x ∷ xs) = ap (λ l. text_in q x ∷ l) (texts_of q xs)

-- the texts of entries in order are those of elements in order
pub sorted_mapped : (q : List (List ℕ)) (o : Order) (xs : List Entry) → map (text_in q) (given o.unique (entry_before o.direction) (in_order (entry_before o.direction) xs)) ≡ sorted_texts o (map (pair_of q) xs)
sorted_mapped q o xs =
    let eb = entry_before o.direction in
    let pb = pair_before o.direction in
    texts_of q (given o.unique eb (in_order eb xs))
    ∙ ap (map (λ (e : Key × List ℕ). e.1)) (given_mapped (pair_of q) eb pb (λ a b. refl) o.unique (in_order eb xs) ∙ ap (given o.unique pb) (in_order_mapped (pair_of q) eb pb (λ a b. refl) xs))

-- one more element, whose key is read
pub keyed_more : {K P : Type 0} (a : Answer K) (b : Answer (List P)) (pair : K → P) (done : List P) →
    and_then (and_then a (λ k. and_then b (λ es. Gives (pair k ∷ es)))) (λ es. Gives (done ++ es)) ≡ and_then a (λ k. and_then b (λ es. Gives ((done ++ pair k ∷ []) ++ es)))
keyed_more (Gives k) (Gives es) pair done = ap Gives (sym (append_assoc done (pair k ∷ []) es))
keyed_more (Gives k) (Refuses f m c) pair done = refl
keyed_more (Refuses f m c) b pair done = refl

-- there is no element at a place that is none
get_past : (ts : List (List ℕ)) (k : ℕ) → length ts ≤ k → slice_get ts k ≡ None
get_past [] k h = refl
get_past (t ∷ ts) zero h = absurd (omega arith)
get_past (t ∷ ts) (suc k) h = get_past ts k (omega arith)

past_at : (ts : List (List ℕ)) (k : ℕ) (b : Bool) → ltb k (length ts) ≡ b → cond b (Some k) None ≡ None → slice_get ts k ≡ None
past_at ts k true e h = absurd (cc)
past_at ts k false e h = get_past ts k (ltb-false k (length ts) e)

pub element_none : (ts : List (List ℕ)) (z : ℤ) → place_among (length ts) z ≡ None → element ts z ≡ None
element_none ts (pos k) h = past_at ts k (ltb k (length ts)) refl h
element_none ts (negsuc k) h = refl

-- what stands above a stack
pub part_above : (q new us : List (List ℕ)) (from to : ℕ) → new ≡ q ++ us → from ≡ length q → to ≡ length new → take (to - from) (drop from new) ≡ us
part_above q new us from to e f g =
    let n : length us ≤ to - from = omega (arith, g, f, ap length e, length-append q us) in
    ap (take (to - from)) (ap (λ k. drop k new) f ∙ ap (drop (length q)) e ∙ drop_at q us (length q) refl) ∙ take_all (to - from) us n

pub index_kept : (s cur more : List (List ℕ)) (i : Option ℕ) → cur ≡ s ++ more → ForSome i (λ k. k < length s) → option_map (λ k. get_or cur k []) i ≡ option_map (λ k. get_or s k []) i
index_kept s cur more None e h = refl
index_kept s cur more (Some k) e h = ap Some (word_kept s cur more k e (h k refl))

row_as : (call : List ℕ) (ws : List (List ℕ)) → 0 < length ws → row_lsort call ws ≡ and_then (order_options call (take (length ws - 1) ws)) (λ x. sorted_of x.settings x.index (get_or ws (length ws - 1) []))
row_as call [] h = absurd (omega arith)
row_as call (w ∷ ws) h = let n : length ws ≡ length (w ∷ ws) - 1 = omega arith in ap (λ k. and_then (order_options call (take k (w ∷ ws))) (λ x. sorted_of x.settings x.index (get_or (w ∷ ws) k []))) n

-- the row where the words are a part of a stack
pub lsort_row : (call : List ℕ) (s : List (List ℕ)) (from to : ℕ) → from + 1 ≤ to → to ≤ length s → row_lsort call (take (to - from) (drop from s)) ≡ and_then (order_options call (take (to - 1 - from) (drop from s))) (λ x. sorted_of x.settings x.index (get_or s (to - 1) []))
lsort_row call s from to h l =
    let ws = take (to - from) (drop from s) in
    let len : length ws ≡ to - from = omega (arith, length-take (to - from) (drop from s), length-drop from s) in
    let row : List (List ℕ) → List ℕ → RowAnswer = λ os list. and_then (order_options call os) (λ x. sorted_of x.settings x.index list) in
    let n : length ws - 1 ≡ to - 1 - from = omega (arith, len) in
    let i : from + (length ws - 1) ≡ to - 1 = omega (arith, len) in
    let options : take (length ws - 1) ws ≡ take (to - 1 - from) (drop from s) = take-take (length ws - 1) (to - from) (drop from s) (omega (arith, len)) ∙ ap (λ k. take k (drop from s)) n in
    let list : get_or ws (length ws - 1) [] ≡ get_or s (to - 1) [] = get_or-take (to - from) (drop from s) (length ws - 1) [] (omega (arith, len)) ∙ get_or-drop from s (length ws - 1) [] ∙ ap (λ m. get_or s m []) i in
    row_as call ws (omega (arith, len)) ∙ ap₂ row options list
