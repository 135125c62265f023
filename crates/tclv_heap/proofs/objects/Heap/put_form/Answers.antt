use Rattle.std.proofs.Common.{◌≡◌, set, map, Some, refl}
use Rattle.tclv_heap.specs.declared.ids.Object.{Object}
use Rattle.tclv_heap.specs.Stands.{IsSound, stands}
use Rattle.tclv_heap.specs.Open.{SaysSameBelow}
use Rattle.tclv_heap.proofs.GraphLemmas.{Updates_set}
use Rattle.tclv_heap.proofs.OpenLemmas.{Put, Holders_put, Closed_again, says_by_form}
use Rattle.tclv_heap.proofs.objects.Heap.put_form.Given.{Over}
use Rattle.tclv_heap.proofs.objects.Heap.put_form.Goals as goal
use Rattle.tclv_heap.proofs.objects.Heap.put_form.Goals.{After-index_mut-object}

put : (g : Over) (c : After-index_mut-object g) → let m : Object g.row.T-Form.Denot = record c.index_mut-object.result.now { form = Some c.args.form; depth = c.args.depth } in let g0 = c.self.inside.objects.slots in let mid = set g0 c.id.inside.0 (Some m) in IsSound g.T.Types.table mid × (stands g.T.Types.table mid c.id.inside.0 ≡ g.T.Types.table.spelled c.args.form (map (stands g.T.Types.table g0) (g.T.Types.table.parts c.args.form))) × SaysSameBelow g.T.Types.table c.id.inside.0 g0 mid
put g c =
    Put g.T.Types.table _ _ c.index_mut-object.result.now _ c.args.form c.self.invariant c.index_mut-object.ensures.value (rw (← c.self.view_is, ← c.id.view_is) at c.requires.opened) refl refl refl refl
    c.requires.spells (rw (← c.self.view_is) at c.requires.depth) (rw (← c.self.view_is, ← c.id.view_is) at c.requires.below) (rw (← c.self.view_is) at c.requires.takes) (rw (← c.self.view_is, ← c.id.view_is) at c.requires.apart)
    (rw (← c.self.view_is, ← c.id.view_is) at c.requires.untold)

pub invariant_of-self : goal.invariant_of-self
invariant_of-self g c = (put g (goal.at.invariant_of-self g c).After-index_mut-object).0

pub returns-clause-sound : goal.returns-clause-sound
returns-clause-sound g c = (put g (goal.at.returns-clause-sound g c).After-index_mut-object).0

pub returns-clause-stands : goal.returns-clause-stands
returns-clause-stands g c = rw (← c.self.view_is, ← c.id.view_is) (put g (goal.at.returns-clause-stands g c).After-index_mut-object).1

pub returns-clause-says : goal.returns-clause-says
returns-clause-says g c = rw (← c.self.view_is, ← c.id.view_is) (put g (goal.at.returns-clause-says g c).After-index_mut-object).2

pub returns-clause-above : goal.returns-clause-above
returns-clause-above g c = says_by_form g.T.Types.table _ (put g (goal.at.returns-clause-above g c).After-index_mut-object).0.spoken

pub returns-clause-holders : goal.returns-clause-holders
returns-clause-holders g c ids holders =
    Holders_put g.T.Types.table _ c.id.inside.0 c.index_mut-object.result.now _ c.args.form ids (rw (← c.self.view_is) at holders) c.index_mut-object.ensures.value (rw (← c.self.view_is, ← c.id.view_is) at c.requires.opened) refl refl

pub returns-clause-closed : goal.returns-clause-closed
returns-clause-closed g c closed =
    Closed_again _ _ c.id.inside.0 _ (rw (← c.self.view_is, ← c.id.view_is) at closed) (Updates_set _ _ c.index_mut-object.result.now _ c.index_mut-object.ensures.value) (λ none. refl)
