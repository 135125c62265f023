use Rattle.std.proofs.Common.{◌≡◌, ◌+◌, ◌∷◌, arith, ap, sym, ◌∙◌, subst, drop, length}
use Rattle.std.proofs.lemmas.List.{drop_more}
use Rattle.tclv_heap.specs.Dying.{Dying}
use Rattle.tclv_heap.proofs.DyingLemmas.{Dying_next, Dying_drop, len_drops}
use Rattle.tclv_heap.proofs.release.drop_parts.Given.{Over}
use Rattle.tclv_heap.proofs.release.drop_parts.Goals as goal
use Rattle.tclv_heap.proofs.release.drop_parts.Goals.{After-kid-kid}

-- the next holder to go
at_kid : (g : Over) (c : After-kid-kid g) → Dying g.T.Types.table.parts c.args.objects.now.slots (g.T.Types.table.parts c.args.form.now) (c.kid-kid.result ∷ drop (c.loop-k.k + 1) (g.T.Types.table.parts c.args.form.now)) c.loop-k.objects.slots
at_kid g c =
    let ps = g.T.Types.table.parts c.args.form.now in
    let split : drop c.loop-k.k ps ≡ c.kid-kid.result ∷ drop (c.loop-k.k + 1) ps =
    drop_more ps c.loop-k.k 0 (omega arith) ∙ ap (λ x. x ∷ drop (c.loop-k.k + 1) ps) (sym c.kid-kid.ensures) in
    subst (λ pending. Dying g.T.Types.table.parts c.args.objects.now.slots ps pending c.loop-k.objects.slots) split c.loop-k.invariant.0

pub loop-k-preserved : goal.loop-k-preserved
loop-k-preserved g c =
    let dying = at_kid g (goal.at.loop-k-preserved g c).After-kid-kid in
    let n = Dying_next _ _ _ _ _ _ c.requires.enough dying in
    let d = Dying_drop _ _ _ _ _ _ _ _ _ c.requires.enough dying c.loop-k.invariant.1 c.drop_holder-head.ensures in
    (d.0, d.1, len_drops _ _ _ _ _ _ n.1 n.2 c.drop_holder-head.ensures ∙ c.loop-k.invariant.2, λ none. absurd (omega (arith, ap length none)))
