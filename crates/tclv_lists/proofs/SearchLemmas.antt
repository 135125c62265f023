-- Laws of what a search finds, and of its words.
use Rattle.std.proofs.Common.{◌≡◌, ℕ, ◌+◌, ◌-◌, ◌<◌, ◌≤◌, Bool, true, false, cond, ltb, List, [], length, take, drop, min, filter, get_or, refl, sym, ap, ap₂, ◌∙◌, arith}
use Rattle.std.proofs.lemmas.Bool.{ltb-true, ltb-false, le-ltb}
use Rattle.std.proofs.lemmas.List.{drop_all, length-take, length-drop, take-take, get_or-take, get_or-drop}
use Rattle.std.specs.List.{enumerate_from}
use Rattle.tclv_model.specs.Rows.{RowAnswer, and_then}
use Rattle.tclv_lists.specs.declared.searching.Search.{Search}
use Rattle.tclv_lists.specs.Searching.{is_wanted, wanted, lsearch_count, search_options, searched, row_lsearch}

-- from past the end on there are none
clipped_at : (s : Search) (pattern : List ℕ) (n : ℕ) (ts : List (List ℕ)) (b : Bool) → ltb (length ts) n ≡ b → wanted s pattern (min n (length ts)) ts ≡ wanted s pattern n ts
clipped_at s pattern n ts false e = let same : min n (length ts) ≡ n = omega (arith, ltb-false (length ts) n e) in ap (λ k. wanted s pattern k ts) same
clipped_at s pattern n ts true e =
    let less = ltb-true (length ts) n e in
    let none : (k : ℕ) → length ts ≤ k → wanted s pattern k ts ≡ [] = λ k h. ap (λ us. filter (λ e. is_wanted s pattern e.1) (enumerate_from k us)) (drop_all k ts h) in
    none (min n (length ts)) (omega (arith, less)) ∙ sym (none n (omega (arith, less)))

pub wanted_clipped : (s : Search) (pattern : List ℕ) (n : ℕ) (ts : List (List ℕ)) → wanted s pattern (min n (length ts)) ts ≡ wanted s pattern n ts
wanted_clipped s pattern n ts = clipped_at s pattern n ts (ltb (length ts) n) refl

-- the row where the words are a part of a stack
module _ (call : List ℕ) (s : List (List ℕ)) (from to : ℕ) (h : from + 2 ≤ to) (l : to ≤ length s) where
  word_at : (k i : ℕ) → k < to - from → from + k ≡ i → get_or (take (to - from) (drop from s)) k [] ≡ get_or s i []
  word_at k i less e = get_or-take (to - from) (drop from s) k [] less ∙ get_or-drop from s k [] ∙ ap (λ m. get_or s m []) e

  pub lsearch_row : row_lsearch call (take (to - from) (drop from s)) ≡ and_then (search_options call (take (to - 2 - from) (drop from s))) (λ x. searched x.settings x.index (get_or s (to - 2) []) (get_or s (to - 1) []))
  lsearch_row =
      let ws = take (to - from) (drop from s) in
      let len : length ws ≡ to - from = omega (arith, length-take (to - from) (drop from s), length-drop from s) in
      let row : List (List ℕ) → List ℕ → List ℕ → RowAnswer = λ os list pattern. and_then (search_options call os) (λ x. searched x.settings x.index list pattern) in
      let enough = ap (λ b. cond b (lsearch_count call) (row (take (length ws - 2) ws) (get_or ws (length ws - 2) []) (get_or ws (length ws - 1) []))) (le-ltb (length ws) 2 (omega (arith, len))) in
      let n : length ws - 2 ≡ to - 2 - from = omega (arith, len) in
      let options : take (length ws - 2) ws ≡ take (to - 2 - from) (drop from s) = take-take (length ws - 2) (to - from) (drop from s) (omega (arith, len)) ∙ ap (λ k. take k (drop from s)) n in
      enough ∙ ap (λ os. row os (get_or ws (length ws - 2) []) (get_or ws (length ws - 1) [])) options
      ∙ ap₂ (row (take (to - 2 - from) (drop from s))) (word_at (length ws - 2) (to - 2) (omega (arith, len)) (omega (arith, len))) (word_at (length ws - 1) (to - 1) (omega (arith, len)) (omega (arith, len)))
