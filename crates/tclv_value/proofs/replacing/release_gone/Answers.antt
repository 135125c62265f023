use Rattle.std.proofs.Common.{◌≡◌, ◌<◌, ◌≤◌, ◌+◌, ◌++◌, ◌∷◌, [], ℕ, List, length, take, drop, get_or, suc, sym, ap, subst, ◌∙◌, arith}
use Rattle.std.specs.Prelude.{IfSome}
use Rattle.std.proofs.Math.Seq.{drop-cons}
use Rattle.std.proofs.lemmas.List.{take_more, take-append-drop}
use Rattle.tclv_forms.specs.Lists.{between}
use Rattle.tclv_heap.specs.Graph.{Graph}
use Rattle.tclv_heap.specs.Graph.{View as HeapView}
use Rattle.tclv_heap.specs.Holders.{Holders}
use Rattle.tclv_value.specs.Forms.{form_table}
use Rattle.tclv_value.specs.Replacing.{gone_from, Loses}
use Rattle.tclv_value.proofs.ReplaceLemmas.{Loses_more, next_to_go, between_at, between_all}
use Rattle.tclv_value.proofs.replacing.release_gone.Goals as goal
use Rattle.tclv_value.proofs.replacing.release_gone.Goals.{After-at}

splits : (ids : List ℕ) (k p : ℕ) → k < length ids → p ≡ get_or ids k 0 → ids ≡ take k ids ++ p ∷ drop (suc k) ids
splits ids k p within is = sym (take-append-drop k ids) ∙ ap (λ x. take k ids ++ x) (drop-cons ids k 0 within ∙ ap (λ x. x ∷ drop (suc k) ids) (sym is))

within : (c : After-at) → c.args.to ≤ length c.in-Some.list.ids
within c = subst (λ x. IfSome x (λ list. c.args.to ≤ length list.ids)) c.in-Some.is c.requires.within

here : (c : After-at) → (c.loop-k.k < length (between c.in-Some.list.ids c.args.from c.args.to)) × (c.at.result ≡ get_or (between c.in-Some.list.ids c.args.from c.args.to) c.loop-k.k 0)
here c =
    let b = between_at c.in-Some.list.ids c.args.from c.args.to c.loop-k.k c.loop-k-test.true (within c) in
    (b.0, c.at.ensures ∙ sym b.1)

rest : {T F : Type 0} (b a : HeapView T F) (m h : Graph F) → b ≡ record a { graph = m } → record b { graph = h } ≡ record a { graph = h }
rest {T} {F} b a m h e = ap (λ (v : HeapView T F). record v { graph = h }) e

pub release-requires : goal.release-requires
release-requires c =
    let a = (goal.at.release-requires c).After-at in
    let ids = between c.in-Some.list.ids c.args.from c.args.to in
    let h = here a in
    let holders : Holders form_table.parts c.args.heap.now.graph (ids ++ c.requires.holders.0) = subst (λ x. Holders form_table.parts c.args.heap.now.graph (gone_from x c.args.from c.args.to ++ c.requires.holders.0)) c.in-Some.is c.requires.holders.1 in
    next_to_go c.args.heap.now.graph c.loop-k.heap.graph ids c.requires.holders.0 (take c.loop-k.k ids) (drop (suc c.loop-k.k) ids) c.at.result (splits ids c.loop-k.k c.at.result h.0 h.1) holders c.loop-k.invariant.0

pub loop-k-preserved : goal.loop-k-preserved
loop-k-preserved c =
    let a = (goal.at.loop-k-preserved c).After-at in
    let ids = between c.in-Some.list.ids c.args.from c.args.to in
    let h = here a in
    let grows : take (c.loop-k.k + 1) ids ≡ take c.loop-k.k ids ++ c.at.result ∷ [] = take_more ids c.loop-k.k 0 h.0 ∙ ap (λ x. take c.loop-k.k ids ++ x ∷ []) (sym h.1) in
    (Loses_more c.args.heap.now.graph c.loop-k.heap.graph c.release.new.self.graph (take c.loop-k.k ids) (take (c.loop-k.k + 1) ids) c.at.result grows c.loop-k.invariant.0 c.release.ensures.released c.release.ensures.holders c.release.ensures.keeps, c.release.ensures.rest ∙ rest c.loop-k.heap c.args.heap.now _ c.release.new.self.graph c.loop-k.invariant.1)

pub returns-clause-lost : goal.returns-clause-lost
returns-clause-lost c = rw c.in-Some.is (subst (λ xs. Loses c.args.heap.now.graph xs c.loop-k.heap.graph) (between_all c.in-Some.list.ids c.args.from c.args.to c.loop-k.k (omega (arith, c.loop-k-test.false))) c.loop-k.invariant.0)
