use Rattle.std.proofs.Common.{◌≡◌, ◌<◌, ◌+◌, ◌++◌, ◌∷◌, [], ℕ, List, length, take, drop, get_or, suc, sym, ap, ◌∙◌, arith}
use Rattle.std.proofs.Math.Seq.{drop-cons}
use Rattle.std.proofs.lemmas.List.{take_more, take-append-drop}
use Rattle.tclv_value.proofs.KeptLemmas.{Goes_more, next_outside}
use Rattle.tclv_value.proofs.kept_lists.release_all.Goals as goal

splits : (ids : List ℕ) (k p : ℕ) → k < length ids → p ≡ get_or ids k 0 → ids ≡ take k ids ++ p ∷ drop (suc k) ids
splits ids k p within is = sym (take-append-drop k ids) ∙ ap (λ x. take k ids ++ x) (drop-cons ids k 0 within ∙ ap (λ x. x ∷ drop (suc k) ids) (sym is))

pub release-requires : goal.release-requires
release-requires c =
    let ids = c.args.list.now.ids in
    let k = c.loop-k.k in
    next_outside c.args.heap.now.graph c.loop-k.heap.graph ids c.requires.holders.0 (take k ids) (drop (suc k) ids) c.at.result (splits ids k c.at.result (omega (arith, c.loop-k-test.true, c.len-k-end.ensures)) c.at.ensures) c.requires.holders.1 c.loop-k.invariant

pub loop-k-preserved : goal.loop-k-preserved
loop-k-preserved c =
    let ids = c.args.list.now.ids in
    let k = c.loop-k.k in
    let grows : take (k + 1) ids ≡ take k ids ++ c.at.result ∷ [] = take_more ids k 0 (omega (arith, c.loop-k-test.true, c.len-k-end.ensures)) ∙ ap (λ x. take k ids ++ x ∷ []) (sym c.at.ensures) in
    Goes_more c.args.heap.now.graph c.loop-k.heap.graph c.release.new.self.graph (take k ids) (take (k + 1) ids) c.at.result grows c.loop-k.invariant c.release.ensures.released c.release.ensures.holders c.release.ensures.keeps
