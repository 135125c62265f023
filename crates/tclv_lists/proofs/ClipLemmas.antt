-- Laws of places that are clipped to a list.
use Rattle.std.proofs.Common.{◌≡◌, ℕ, ◌-◌, List, length, take, drop, min, sym, ap, ◌∙◌, arith}
use Rattle.std.proofs.lemmas.List.{length-drop, take_min, drop_min}

-- a part of a list, whose ends may be past its end
pub clipped_part : {A : Type 0} (x y n : ℕ) (ts : List A) → n ≡ length ts → take (min y n - min x n) (drop (min x n) ts) ≡ take (y - x) (drop x ts)
clipped_part x y n ts h =
    let d = drop x ts in
    let e : drop (min x n) ts ≡ d = ap (λ k. drop (min x k) ts) h ∙ drop_min x ts in
    let len : length d ≡ length ts - x = length-drop x ts in
    let same : min (min y n - min x n) (length d) ≡ min (y - x) (length d) = omega arith in
    ap (take (min y n - min x n)) e ∙ sym (take_min (min y n - min x n) d) ∙ ap (λ k. take k d) same ∙ take_min (y - x) d
