-- Laws of the top of a stack, and of texts that are moved down or pushed again.
use Rattle.std.proofs.Common.{◌≡◌, ◌≢◌, ℕ, suc, ◌+◌, ◌-◌, ◌<◌, ◌≤◌, List, [], ◌∷◌, ◌++◌, length, take, drop, get_or, sym, ap, ◌∙◌, arith}
use Rattle.std.specs.Prelude.{slice_set}
use Rattle.std.proofs.lemmas.List.{length-set, take_more_set, drop_more, drop_all, get_or-set_other, append_assoc, length-take, length-drop, take-take, take_more, get_or-drop, get_or_append_left}
use Rattle.tclv_value.specs.Stacks.{top, under}

-- the two top texts
pub top_two : {A : Type 0} (s : List A) (d : A) → 2 ≤ length s → top 2 s ≡ get_or s (length s - 2) d ∷ get_or s (length s - 1) d ∷ []
top_two s d h =
    let n = length s - 2 in
    let e : n + 1 ≡ length s - 1 = omega arith in
    let f : length s - 1 + 1 ≡ length s = omega arith in
    drop_more s n d (omega arith)
    ∙ ap (λ k. get_or s n d ∷ drop k s) e
    ∙ ap (λ t. get_or s n d ∷ t) (drop_more s (length s - 1) d (omega arith) ∙ ap (λ t. get_or s (length s - 1) d ∷ t) (drop_all (length s - 1 + 1) s (omega arith)))

pub two_gathered : {A : Type 0} (s : List A) (base : ℕ) (d : A) → base + 1 < length s →
    take (length s - (length s - 1 - base - 1)) (slice_set (slice_set s base (get_or s (length s - 1 - 1) d)) (base + 1) (get_or (slice_set s base (get_or s (length s - 1 - 1) d)) (length s - 1) d))
    ≡ take base s ++ top 2 s
two_gathered s base d h =
    let x = get_or s (length s - 1 - 1) d in
    let y = get_or (slice_set s base x) (length s - 1) d in
    let n : length s - (length s - 1 - base - 1) ≡ base + 1 + 1 = omega arith in
    let ne : length s - 1 ≢ base = omega arith in
    let k : length s - 1 - 1 ≡ length s - 2 = omega arith in
    let in_set : base + 1 < length (slice_set s base x) = omega (arith, length-set s base x) in
    ap (λ m. take m (slice_set (slice_set s base x) (base + 1) y)) n
    ∙ take_more_set (slice_set s base x) (base + 1) y in_set
    ∙ ap (λ t. t ++ y ∷ []) (take_more_set s base x (omega arith))
    ∙ append_assoc (take base s) (x ∷ []) (y ∷ [])
    ∙ ap (λ t. take base s ++ (x ∷ t ∷ [])) (get_or-set_other s base (length s - 1) x d ne)
    ∙ ap (λ m. take base s ++ (get_or s m d ∷ get_or s (length s - 1) d ∷ [])) k
    ∙ ap (λ t. take base s ++ t) (sym (top_two s d (omega arith)))

-- the same by the steps that move them down
pub two_moved : {A : Type 0} (s a b n : List A) (base last : ℕ) (d : A) → base + 1 < length s → last ≡ length s - 1 → a ≡ slice_set s base (get_or s (last - 1) d) → b ≡ slice_set a (base + 1) (get_or a last d) → n ≡ take (length b - (last - base - 1)) b → n ≡ take base s ++ top 2 s
two_moved s a b n base last d h l e f g =
    let len : length b ≡ length s = ap length f ∙ length-set a (base + 1) (get_or a last d) ∙ ap length e ∙ length-set s base (get_or s (last - 1) d) in
    g ∙ ap (λ k. take (k - (last - base - 1)) b) len
    ∙ ap (λ t. take (length s - (last - base - 1)) t) (f ∙ ap (λ t. slice_set t (base + 1) (get_or t last d)) e)
    ∙ ap (λ k. take (length s - (k - base - 1)) (slice_set (slice_set s base (get_or s (k - 1) d)) (base + 1) (get_or (slice_set s base (get_or s (k - 1) d)) k d))) l
    ∙ two_gathered s base d h

pub two_pushed : {A : Type 0} (old mid new : List A) (x y : A) → mid ≡ old ++ x ∷ [] → new ≡ mid ++ y ∷ [] → new ≡ old ++ (x ∷ y ∷ [])
two_pushed old mid new x y e f = f ∙ ap (λ t. t ++ y ∷ []) e ∙ append_assoc old (x ∷ []) (y ∷ [])

-- what is left of a stack when texts went in two goes
pub under_under : {A : Type 0} (s : List A) (n k : ℕ) → k ≤ n → n ≤ length s → take (length (under k s) - (n - k)) (under k s) ≡ under n s
under_under s n k h l =
    let a : length (under k s) ≡ length s - k = omega (arith, length-take (length s - k) s) in
    let b : length (under k s) - (n - k) ≡ length s - n = omega arith in
    ap (λ m. take m (under k s)) b ∙ take-take (length s - n) (length s - k) s (omega arith)

-- one more of the words that are pushed again
pub one_more : (s cur new : List (List ℕ)) (from at : ℕ) → from ≤ at → at < length s → cur ≡ s ++ take (at - from) (drop from s) → new ≡ cur ++ get_or cur at [] ∷ [] → new ≡ s ++ take (at + 1 - from) (drop from s)
one_more s cur new from at h l e f =
    let k = at - from in
    let d = drop from s in
    let inside : k < length d = omega (arith, length-drop from s) in
    let i : from + k ≡ at = omega arith in
    let j : at + 1 - from ≡ k + 1 = omega arith in
    let word : get_or cur at [] ≡ get_or d k [] = ap (λ t. get_or t at []) e ∙ get_or_append_left s (take k d) [] at l ∙ ap (λ m. get_or s m []) (sym i) ∙ sym (get_or-drop from s k []) in
    f ∙ ap (λ t. t ++ get_or cur at [] ∷ []) e ∙ append_assoc s (take k d) (get_or cur at [] ∷ []) ∙ ap (λ x. s ++ (take k d ++ x ∷ [])) word ∙ ap (λ t. s ++ t) (sym (take_more d k [] inside)) ∙ ap (λ m. s ++ take m d) (sym j)

-- the words from a place on: the one there, and those behind it
pub words_step : (s : List (List ℕ)) (at to : ℕ) → at < to → to ≤ length s → take (to - at) (drop at s) ≡ get_or s at [] ∷ take (to - (at + 1)) (drop (at + 1) s)
words_step s at to h l =
    let k : to - at ≡ suc (to - (at + 1)) = omega arith in
    ap (λ m. take m (drop at s)) k ∙ ap (take (suc (to - (at + 1)))) (drop_more s at [] (omega arith))

pub word_kept : (s cur more : List (List ℕ)) (at : ℕ) → cur ≡ s ++ more → at < length s → get_or cur at [] ≡ get_or s at []
word_kept s cur more at e h = ap (λ t. get_or t at []) e ∙ get_or_append_left s more [] at h
