-- Laws of words that are pushed again and made a list.
use Rattle.std.proofs.Common.{◌≡◌, ℕ, zero, suc, ◌+◌, ◌-◌, ◌≤◌, List, [], ◌++◌, length, take, drop, refl, sym, ap, ◌∙◌, append-nil, append_assoc, add-one}
use Rattle.tclv_reply.proofs.Laws.{part_kept}
use Rattle.tclv_lists.specs.Making.{times}

pub times_none : (k : ℕ) (words : List (List ℕ)) → words ≡ [] → times k words ≡ []
times_none zero words e = refl
times_none (suc k) words e = ap (λ w. w ++ times k words) e ∙ times_none k words e

times_suc : (k : ℕ) (words : List (List ℕ)) → times (suc k) words ≡ times k words ++ words
times_suc zero words = append-nil words
times_suc (suc k) words = ap (λ t. words ++ t) (times_suc k words) ∙ sym (append_assoc words (times k words) words)

pub times_more : (s cur new : List (List ℕ)) (from to k : ℕ) → from ≤ to → to ≤ length s → cur ≡ s ++ times k (take (to - from) (drop from s)) → new ≡ cur ++ take (to - from) (drop from cur) → new ≡ s ++ times (k + 1) (take (to - from) (drop from s))
times_more s cur new from to k h l e f =
    let w = take (to - from) (drop from s) in
    f ∙ ap (λ t. cur ++ t) (part_kept s cur (times k w) from to e h l) ∙ ap (λ t. t ++ w) e ∙ append_assoc s (times k w) w ∙ ap (λ t. s ++ t) (sym (times_suc k w)) ∙ ap (λ m. s ++ times m w) (sym (add-one k))
