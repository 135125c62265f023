-- Laws of paths of indices.
use Rattle.std.proofs.Common.{◌≡◌, ◌≢◌, ℕ, ◌+◌, ◌-◌, ◌<◌, ◌≤◌, Bool, true, false, cond, ltb, List, [], ◌∷◌, ◌++◌, length, take, drop, get_or, Option, Some, None, Result, Ok, Err, refl, sym, ap, ◌∙◌, subst, arith}
use Rattle.std.specs.Prelude.{ℤ, pos, negsuc, IfOk, IsOkAnd, slice_get, option_to_list}
use Rattle.std.specs.Option.{option_map_or}
use Rattle.std.specs.Result.{result_unwrap_or}
use Rattle.tclv_text.specs.Lists.{ListFlaw}
use Rattle.std.proofs.lemmas.List.{drop_more, length-append, length-take, length-drop, drop_at, take_all}
use Rattle.std.proofs.lemmas.Bool.{ltb-true}
use Rattle.tclv_text.specs.Elements.{elements}
use Rattle.tclv_model.specs.Rows.{RowAnswer, Gives, and_then}
use Rattle.tclv_model.specs.Values.{list_of, place_of}
use Rattle.tclv_value.specs.View.{View, StaysMade}
use Rattle.tclv_reply.specs.Replies.{Grows, Reads}
use Rattle.tclv_lists.specs.Paths.{path_of, checked, element, element_at, StepsInto, IsPathAt}
use Rattle.tclv_reply.specs.Places.{place_among}
use Rattle.tclv_reply.proofs.Laws.{grows_trans, get_some, given_read, list_known}

among : (b : Bool) (j k : ℕ) → cond b (Some j) None ≡ Some k → (b ≡ true) × (j ≡ k)
among true j k e = (refl, cc)
among false j k e = absurd (cc)

-- the element that is there
pub element_among : (ts : List (List ℕ)) (z : ℤ) (k : ℕ) → place_among (length ts) z ≡ Some k → (element ts z ≡ Some (get_or ts k [])) × (slice_get ts k ≡ Some (get_or ts k []))
element_among ts (pos j) k e =
    let p = among (ltb j (length ts)) j k e in
    let inside : j < length ts = ltb-true j (length ts) p.0 in
    let g = get_some ts k (subst (λ m. m < length ts) p.1 inside) in
    (ap (slice_get ts) p.1 ∙ g, g)
element_among ts (negsuc j) k e = absurd (cc)

module _ (t i u j : List ℕ) (old one two new : View) (len k : ℕ) (found : Option ℕ) (read : Reads (list_of t) (λ ts x. x ≡ length ts) old one (Ok len)) (placed : Reads (place_of j len) (λ z x. x ≡ place_among len z) one two (Ok found)) (there : found ≡ Some k) (same_index : j ≡ i) (same_list : u ≡ t) where
  rest : (path : List (List ℕ)) → element_at t (i ∷ path) ≡ element_at (get_or read.gives.read k []) path
  rest path =
      let us = read.gives.read in
      let z = placed.gives.read in
      let f : ℤ → RowAnswer = λ y. option_map_or (λ x. element_at x path) (element us y) (checked path (Gives [])) in
      let among_is : place_among (length us) z ≡ Some k = ap (λ n. place_among n z) (sym read.gives.shown) ∙ sym placed.gives.shown ∙ there in
      let place_is : place_of i (length us) ≡ Gives z = ap (λ n. place_of i n) (sym read.gives.shown) ∙ ap (λ w. place_of w len) (sym same_index) ∙ placed.gives.given in
      ap (λ a. and_then a (λ vs. and_then (place_of i (length vs)) (λ y. option_map_or (λ x. element_at x path) (element vs y) (checked path (Gives []))))) read.gives.given
      ∙ ap (λ a. and_then a f) place_is
      ∙ ap (λ o. option_map_or (λ x. element_at x path) o (checked path (Gives []))) (element_among us z k among_is).0

  pub entered : IsOkAnd (elements u) (λ vs. new.stack ≡ two.stack ++ option_to_list (slice_get vs k)) → new.cells ≡ two.cells → StaysMade two new → StepsInto t i old new (Ok true)
  entered pushed cells stays =
      let us = read.gives.read in
      let z = placed.gives.read in
      let among_is : place_among (length us) z ≡ Some k = ap (λ n. place_among n z) (sym read.gives.shown) ∙ sym placed.gives.shown ∙ there in
      let stack = list_known (elements u) us (λ vs. new.stack ≡ two.stack ++ option_to_list (slice_get vs k)) (ap list_of same_list ∙ read.gives.given) pushed in
      let stack_is : new.stack ≡ two.stack ++ get_or us k [] ∷ [] = stack ∙ ap (λ o. two.stack ++ option_to_list o) (element_among us z k among_is).1 in
      let step : Grows two new = record { more = get_or us k [] ∷ []; stack = stack_is; cells = cells; stays = stays } in record {
        grows = grows_trans old two new (grows_trans old one two read.grows placed.grows) step;
        into = record { text = get_or us k []; rest = rest; top = stack_is ∙ ap (λ s. s ++ get_or us k [] ∷ []) (placed.kept ∙ read.kept) };
        refuses = tt;
      }

-- the elements of a word are its path
pub path_pushed : (items mid new : List (List ℕ)) (from to : ℕ) → new ≡ mid ++ items → from ≡ length mid → to ≡ length new → IsPathAt items new (from, to)
path_pushed items mid new from to p f g =
    let long : length new ≡ length mid + length items = omega (arith, ap length p, length-append mid items) in
    let count : length items ≤ to - from = omega arith in record {
      order = omega arith;
      within = omega arith;
      is = ap (λ k. take (to - from) (drop k new)) f ∙ ap (λ q. take (to - from) (drop (length mid) q)) p ∙ ap (take (to - from)) (drop_at mid items (length mid) refl) ∙ take_all (to - from) items count;
    }

-- The elements of a word that is no index and is a list are the path.
pub named_path : {E : Type 0} (b : Bool) (t u : List ℕ) (r : Result (ℕ × ℕ) E) (new : List (List ℕ)) → b ≡ false → u ≡ t → IfOk r (λ x. (ts : List (List ℕ)) × (list_of u ≡ Gives ts) × IsPathAt ts new x)
    → IfOk r (λ x. IsPathAt (cond b (t ∷ []) (result_unwrap_or (elements t) (t ∷ []))) new x)
named_path b t u (Ok x) new n e h =
    let read : elements t ≡ Ok h.0 = given_read (elements t) h.0 (ap list_of (sym e) ∙ h.1) in
    let path : h.0 ≡ cond b (t ∷ []) (result_unwrap_or (elements t) (t ∷ [])) = sym (ap (λ v. cond v (t ∷ []) (result_unwrap_or (elements t) (t ∷ []))) n ∙ ap (λ q. result_unwrap_or q (t ∷ [])) read) in
    subst (λ ts. IsPathAt ts new x) path h.2
named_path b t u (Err e) new n same h = tt

pub named_word : (b : Bool) (r : Result (List (List ℕ)) ListFlaw) (f : ListFlaw) (s : List (List ℕ)) (word end : ℕ) → r ≡ Err f → word < length s → end ≡ word + 1 → IsPathAt (cond b (get_or s word [] ∷ []) (result_unwrap_or r (get_or s word [] ∷ []))) s (word, end)
named_word b r f s word end e h n =
    let t = get_or s word [] in
    let same : cond b (t ∷ []) (result_unwrap_or r (t ∷ [])) ≡ t ∷ [] = ap (λ x. cond b (t ∷ []) (result_unwrap_or x (t ∷ []))) e ∙ (elim b as (λ c. cond c (t ∷ []) (t ∷ []) ≡ t ∷ []) [ true ↦ refl | false ↦ refl ]) in
    let one : end - word ≡ 1 = omega arith in record {
      order = omega arith;
      within = omega arith;
      is = ap (λ k. take k (drop word s)) one ∙ ap (take 1) (drop_more s word [] h) ∙ sym same;
    }

path_itself : (words : List (List ℕ)) → length words ≢ 1 → path_of words ≡ words
path_itself [] h = refl
path_itself (a ∷ []) h = absurd (h refl)
path_itself (a ∷ b ∷ ws) h = refl

pub words_path : (s : List (List ℕ)) (from to : ℕ) → from ≤ to → to ≤ length s → to - from ≢ 1 → IsPathAt (path_of (take (to - from) (drop from s))) s (from, to)
words_path s from to h l ne =
    let count : length (take (to - from) (drop from s)) ≡ to - from = omega (arith, length-take (to - from) (drop from s), length-drop from s) in
    record { order = h; within = l; is = sym (path_itself (take (to - from) (drop from s)) (λ e. ne (sym count ∙ e))) }

-- an element is pushed
pub grows_element : (r : Result (List (List ℕ)) ListFlaw) (cur new : View) (k : ℕ) → IsOkAnd r (λ ts. new.stack ≡ cur.stack ++ option_to_list (slice_get ts k)) → new.cells ≡ cur.cells → StaysMade cur new → Grows cur new
grows_element (Ok ts) cur new k p c s = record { more = option_to_list (slice_get ts k); stack = p; cells = c; stays = s }
grows_element (Err f) cur new k p c s = absurd p
