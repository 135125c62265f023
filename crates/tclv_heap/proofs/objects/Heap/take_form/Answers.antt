use Rattle.std.proofs.Common.{set, Some, None, refl, sym, ◌∙◌}
use Rattle.tclv_heap.specs.declared.ids.Object.{Object}
use Rattle.tclv_heap.specs.Graph.{Takes}
use Rattle.tclv_heap.specs.Stands.{IsSound}
use Rattle.tclv_heap.specs.Open.{SaysSameBelow}
use Rattle.tclv_heap.proofs.GraphLemmas.{Updates_set}
use Rattle.tclv_heap.proofs.OpenLemmas.{Take, Holders_take, Closed_but}
use Rattle.tclv_heap.proofs.objects.Heap.take_form.Given.{Over}
use Rattle.tclv_heap.proofs.objects.Heap.take_form.Goals as goal
use Rattle.tclv_heap.proofs.objects.Heap.take_form.Goals.{In-Some}

taken : (g : Over) (c : In-Some g) → let m : Object g.row.T-Form.Denot = record c.index_mut-object.result.now { text = None; form = c.take.new.self; depth = 0 } in let mid = set c.self.inside.objects.slots c.id.inside.0 (Some m) in IsSound g.T.Types.table mid × Takes g.T.Types.table.parts mid (g.T.Types.table.parts c.in-Some.form) × SaysSameBelow g.T.Types.table c.id.inside.0 c.self.inside.objects.slots mid
taken g c =
    Take g.T.Types.table _ _ c.index_mut-object.result.now _ c.in-Some.form c.self.invariant c.index_mut-object.ensures.value (sym c.take.ensures.value ∙ c.in-Some.is) refl c.take.ensures.after refl refl refl
    (rw (← c.self.view_is, ← c.id.view_is) at c.requires.untold)

pub invariant_of-self : goal.invariant_of-self
invariant_of-self g c = (taken g (goal.at.invariant_of-self g c).In-Some).0

pub returns-clause-sound : goal.returns-clause-sound
returns-clause-sound g c = (taken g (goal.at.returns-clause-sound g c).In-Some).0

pub returns-clause-says : goal.returns-clause-says
returns-clause-says g c = rw (← c.self.view_is, ← c.id.view_is) (taken g (goal.at.returns-clause-says g c).In-Some).2

pub returns-clause-holders : goal.returns-clause-holders
returns-clause-holders g c ids holders =
    let t = taken g (goal.at.returns-clause-holders g c).In-Some in
    Holders_take g.T.Types.table _ c.id.inside.0 c.index_mut-object.result.now _ c.in-Some.form ids (rw (← c.self.view_is) at holders) c.index_mut-object.ensures.value (sym c.take.ensures.value ∙ c.in-Some.is) c.take.ensures.after refl t.1

pub returns-clause-closed : goal.returns-clause-closed
returns-clause-closed g c = rw (← c.id.view_is) (Closed_but _ _ _ _ (rw (← c.self.view_is) at c.requires.closed) (Updates_set _ _ c.index_mut-object.result.now _ c.index_mut-object.ensures.value))
