use Rattle.std.proofs.Common.{◌≡◌, ◌++◌, [], set, Some}
use Rattle.tclv_heap.specs.declared.ids.Object.{Object}
use Rattle.tclv_heap.specs.Graph.{at, form_parts, retexted, Takes, IsCounted}
use Rattle.tclv_heap.specs.Dying.{Dying}
use Rattle.tclv_heap.specs.Stands.{stands}
use Rattle.tclv_heap.proofs.AddTextLemmas.{Add_start, Add_end, Added}
use Rattle.tclv_heap.proofs.objects.Heap.add_text.Given.{Over}
use Rattle.tclv_heap.proofs.objects.Heap.add_text.Goals as goal
use Rattle.tclv_heap.proofs.objects.Heap.add_text.Goals.{In_ok-form, After-release_form}

started : (g : Over) (c : In_ok-form g) → IsCounted g.T.Types.table.parts c.extend_text.new.objects.slots × Takes g.T.Types.table.parts c.extend_text.new.objects.slots (form_parts g.T.Types.table.parts c.in_ok-form.form)
started g c =
    Add_start g.T.Types.table _ _ _ c.self.invariant (rw (← c.self.view_is) at c.requires.text) (rw (← c.self.view_is) at c.requires.more) (rw (← c.self.view_is) at c.requires.alone) (rw (← c.self.view_is) at c.requires.free) _ _ c.in_ok-form.ensures.extended

ended : (g : Over) (c : After-release_form g) → Added g.T.Types.table c.self.inside.objects.slots c.release_form.new.objects.slots c.args.id c.args.more × ((n : Object g.row.T-Form.Denot) → at c.self.inside.objects.slots c.args.id ≡ Some n → Dying g.T.Types.table.parts (set c.self.inside.objects.slots c.args.id (Some (retexted n (stands g.T.Types.table c.self.inside.objects.slots c.args.id ++ stands g.T.Types.table c.self.inside.objects.slots c.args.more)))) (form_parts g.T.Types.table.parts n.form) [] c.release_form.new.objects.slots)
ended g c =
    Add_end g.T.Types.table _ _ _ c.self.invariant (rw (← c.self.view_is) at c.requires.text) (rw (← c.self.view_is) at c.requires.more) (rw (← c.self.view_is) at c.requires.alone) (rw (← c.self.view_is) at c.requires.free) _ _ c.in_ok-form.ensures.extended
    _ c.release_form.ensures.released c.release_form.ensures.sound

pub release_form-requires-clause-sound : goal.release_form-requires-clause-sound
release_form-requires-clause-sound g c = (started g (goal.at.release_form-requires-clause-sound g c).In_ok-form).0

pub release_form-requires-clause-takes : goal.release_form-requires-clause-takes
release_form-requires-clause-takes g c = (started g (goal.at.release_form-requires-clause-takes g c).In_ok-form).1

pub invariant_of-self-2 : goal.invariant_of-self-2
invariant_of-self-2 g c = (ended g (goal.at.invariant_of-self-2 g c).After-release_form).0.valid

pub returns-clause-text : goal.returns-clause-text
returns-clause-text g c = rw (← c.self.view_is) (ended g (goal.at.returns-clause-text g c).After-release_form).0.text

pub returns-clause-added : goal.returns-clause-added
returns-clause-added g c = rw (← c.self.view_is) (ended g (goal.at.returns-clause-added g c).After-release_form).1

pub returns-clause-says : goal.returns-clause-says
returns-clause-says g c = rw (← c.self.view_is) (ended g (goal.at.returns-clause-says g c).After-release_form).0.says

pub returns-clause-holders : goal.returns-clause-holders
returns-clause-holders g c ids holders = (ended g (goal.at.returns-clause-holders g c).After-release_form).0.holders ids (rw (← c.self.view_is) at holders)

pub returns-clause-sound : goal.returns-clause-sound
returns-clause-sound g c = (ended g (goal.at.returns-clause-sound g c).After-release_form).0.valid

pub returns-clause-closed : goal.returns-clause-closed
returns-clause-closed g c closed = (ended g (goal.at.returns-clause-closed g c).After-release_form).0.closed (rw (← c.self.view_is) at closed)
