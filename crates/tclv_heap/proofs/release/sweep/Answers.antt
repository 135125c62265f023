use Rattle.std.proofs.Common.{[], Some, ap, sym, ◌∙◌, subst}
use Rattle.tclv_heap.specs.Graph.{form_parts}
use Rattle.tclv_heap.specs.Dying.{Dying, Ready, Listed}
use Rattle.tclv_heap.proofs.DyingLemmas.{Dying_pop, Dying_then, Ready_later}
use Rattle.tclv_heap.proofs.release.sweep.Given.{Over}
use Rattle.tclv_heap.proofs.release.sweep.Goals as goal
use Rattle.tclv_heap.proofs.release.sweep.Goals.{in-Some-form, in_default-form, After-remove-object}

-- after `objects.remove`
popped : (g : Over) (c : After-remove-object g) → Dying g.T.Types.table.parts c.args.objects.now.slots [] (form_parts g.T.Types.table.parts c.remove-object.result.form) c.remove-object.new.self.slots × Listed c.remove-object.new.self.slots c.remove-object.result.next
popped g c =
    let u = c.remove-object.ensures.updates in
    Dying_pop g.T.Types.table.parts _ c.loop-head.objects.slots _ _ c.dying.inside.0 _ _ c.requires.enough c.loop-head.invariant.0 c.loop-head.invariant.1
    (c.in-Some.is ∙ ap Some (sym c.dying.view_is)) c.remove-object.ensures.value (record { changed = u.changed; others = u.others })

pub drop_parts-head-requires : goal.drop_parts-head-requires
drop_parts-head-requires g c =
    let p = popped g (goal.at.drop_parts-head-requires g c).After-remove-object in
    let ready = Ready_later _ _ _ _ _ _ c.requires.enough p.0 p.1 in
    subst (λ f. Ready g.T.Types.table.parts c.remove-object.new.self.slots (form_parts g.T.Types.table.parts f) c.remove-object.result.next) c.in-Some-form.is ready

pub loop-head-preserved-after-object : goal.loop-head-preserved-after-object
loop-head-preserved-after-object g c =
    let p = popped g (goal.at.loop-head-preserved-after-object g c).After-remove-object in
    elim c.match-object.branch [
      | in-Some-form w ↦
          let d = subst (λ f. Dying g.T.Types.table.parts c.args.objects.now.slots [] (form_parts g.T.Types.table.parts f) c.remove-object.new.self.slots) w.in-Some-form.is p.0 in
          rw (w.objects-is, w.head-is) (Dying_then _ _ _ _ _ _ d w.drop_parts-head.ensures.dropped, w.drop_parts-head.ensures.listed, λ none. absurd (let e = sym (c.loop-head.invariant.2 none).1 ∙ c.in-Some.is in cc))
      | in_default-form w ↦
          rw (w.objects-is, w.head-is) (subst (λ f. Dying g.T.Types.table.parts c.args.objects.now.slots [] (form_parts g.T.Types.table.parts f) c.remove-object.new.self.slots) w.in_default-form.is p.0, p.1, λ none. absurd (let e = sym (c.loop-head.invariant.2 none).1 ∙ c.in-Some.is in cc))
    ]

pub loop-head-preserved : goal.loop-head-preserved
loop-head-preserved g c =
    let p = popped g (goal.at.loop-head-preserved g c).After-remove-object in
    elim c.match-object.branch [
      | in-Some-form w ↦
          let d = subst (λ f. Dying g.T.Types.table.parts c.args.objects.now.slots [] (form_parts g.T.Types.table.parts f) c.remove-object.new.self.slots) w.in-Some-form.is p.0 in
          rw (w.objects-is, w.head-is) (Dying_then _ _ _ _ _ _ d w.drop_parts-head.ensures.dropped, w.drop_parts-head.ensures.listed, λ none. absurd (let e = sym (c.loop-head.invariant.2 none).1 ∙ c.in-Some.is in cc))
      | in_default-form w ↦
          rw (w.objects-is, w.head-is) (subst (λ f. Dying g.T.Types.table.parts c.args.objects.now.slots [] (form_parts g.T.Types.table.parts f) c.remove-object.new.self.slots) w.in_default-form.is p.0, p.1, λ none. absurd (let e = sym (c.loop-head.invariant.2 none).1 ∙ c.in-Some.is in cc))
    ]
