use Rattle.std.proofs.Common.{◌≡◌, ◌+◌, ◌++◌, ◌∷◌, [], arith, ap, sym, ◌∙◌, refl, subst, take}
use Rattle.std.proofs.lemmas.List.{take_more}
use Rattle.tclv_heap.specs.Graph.{Shared, form_parts}
use Rattle.tclv_heap.proofs.GraphLemmas.{Updates_set}
use Rattle.tclv_heap.proofs.DyingLemmas.{len_updates}
use Rattle.tclv_heap.proofs.CopyLemmas.{Shared_start, Shared_more}
use Rattle.tclv_heap.proofs.copies.share_parts.Goals as goal

pub returns-in_default-clause-shared : goal.returns-in_default-clause-shared
returns-in_default-clause-shared g c =
    subst (λ f. Shared c.args.objects.now.slots (form_parts g.T.Types.table.parts f) c.args.objects.now.slots) (sym c.in_default.is) (Shared_start _ c.requires.low)

pub loop-k-init : goal.loop-k-init
loop-k-init g c = (Shared_start _ c.requires.low, refl, refl)

pub loop-k-preserved : goal.loop-k-preserved
loop-k-preserved g c =
    let ps = g.T.Types.table.parts c.in-Some.form in
    let grows : take (c.loop-k.k + 1) ps ≡ take c.loop-k.k ps ++ c.kid.inside.0 ∷ [] =
    take_more ps c.loop-k.k 0 (omega arith) ∙ ap (λ x. take c.loop-k.k ps ++ x ∷ []) (sym c.kid-kid.ensures ∙ sym c.kid.view_is) in
    let u = Updates_set c.loop-k.objects.slots c.kid.inside.0 c.index_mut-object.result.now _ c.index_mut-object.ensures.value in (
      Shared_more _ _ _ _ _ c.kid.inside.0 c.index_mut-object.result.now c.saturating_add-object.result grows c.loop-k.invariant.0 c.index_mut-object.ensures.value (omega arith) u,
      len_updates _ _ _ _ _ c.index_mut-object.ensures.value u ∙ c.loop-k.invariant.1,
      c.loop-k.invariant.2,
    )
