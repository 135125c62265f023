-- Laws of places that are clipped to a text.
use Rattle.std.proofs.Common.{◌≡◌, ℕ, ◌-◌, ◌+◌, ◌<◌, ◌≤◌, List, [], ◌∷◌, ◌++◌, length, take, drop, get_or, min, max, sym, ap, ◌∙◌, arith, length-append, get_or-append-add}
use Rattle.tclv_reply.proofs.Laws.{word_kept}
use Rattle.std.proofs.lemmas.List.{length-drop, take_min, drop_min}
use Rattle.tclv_strings.specs.Places.{text_between}

-- a part, whose ends may be past the end of the text or the one behind the other
pub clipped_between : (x y n : ℕ) (text : List ℕ) → n ≡ length text → text_between (min x n) (max (min x n) (min y n)) text ≡ text_between x y text
clipped_between x y n text h =
    let d = drop x text in
    let e : drop (min x n) text ≡ d = ap (λ k. drop (min x k) text) h ∙ drop_min x text in
    let len : length d ≡ length text - x = length-drop x text in
    let count = max (min x n) (min y n) - min x n in
    let same : min count (length d) ≡ min (y - x) (length d) = omega arith in
    ap (take count) e ∙ sym (take_min count d) ∙ ap (λ k. take k d) same ∙ take_min (y - x) d

pub one_between : (k : ℕ) (text : List ℕ) → text_between k (k + 1) text ≡ take 1 (drop k text)
one_between k text = let e : k + 1 - k ≡ 1 = omega arith in ap (λ m. take m (drop k text)) e

pub clipped_as : (x y n from to top : ℕ) (text : List ℕ) → n ≡ length text → from ≡ min x n → to ≡ min y n → top ≡ max from to → text_between from top text ≡ text_between x y text
clipped_as x y n from to top text h a b e =
    ap (λ k. text_between from k text) (e ∙ ap (λ k. max from k) b) ∙ ap (λ k. text_between k (max k (min y n)) text) a ∙ clipped_between x y n text h

-- the words below a text that was pushed
pub record Below (s mid : List (List ℕ)) (t : List ℕ) (h : ℕ) : Type 0 where
  pub third : get_or mid (h - 4) [] ≡ get_or s (length s - 3) []
  pub second : get_or mid (h - 3) [] ≡ get_or s (length s - 2) []
  pub first : get_or mid (h - 2) [] ≡ get_or s (length s - 1) []
  pub top : get_or mid (h - 1) [] ≡ t

pub words_below : (s mid : List (List ℕ)) (t : List ℕ) (h : ℕ) → 3 ≤ length s → mid ≡ s ++ t ∷ [] → h ≡ length mid → Below s mid t h
words_below s mid t h l e f =
    let len = length-append s (t ∷ []) in
    let at : (i j : ℕ) → i ≡ j → j < length s → get_or mid i [] ≡ get_or s j [] = λ i j p q. ap (λ m. get_or mid m []) p ∙ word_kept s mid (t ∷ []) j e q in
    let k : h - 1 ≡ length s + 0 = omega (arith, ap length e) in
    record {
      third = at (h - 4) (length s - 3) (omega (arith, ap length e, len)) (omega arith);
      second = at (h - 3) (length s - 2) (omega (arith, ap length e, len)) (omega arith);
      first = at (h - 2) (length s - 1) (omega (arith, ap length e, len)) (omega arith);
      top = ap (λ q. get_or q (h - 1) []) e ∙ ap (λ m. get_or (s ++ t ∷ []) m []) k ∙ get_or-append-add s (t ∷ []) 0 [];
    }
