use Rattle.std.proofs.Common.{◌≡◌, ℕ, set, Some, IsSome, is_some, refl, sym, ap, ◌∙◌}
use Rattle.tclv_heap.specs.declared.ids.Object.{Object}
use Rattle.tclv_heap.specs.Graph.{at, form_parts, Takes}
use Rattle.tclv_heap.specs.Stands.{IsSound, IsClosed, Keeps, stands}
use Rattle.tclv_heap.proofs.GraphLemmas.{Updates_set}
use Rattle.tclv_heap.proofs.HeapLemmas.{Set_form, Set_form_done, Reformed_stays}
use Rattle.tclv_heap.proofs.HoldersLemmas.{Holders_change, Holders_release, Closed_updates, Closed_release}
use Rattle.tclv_heap.proofs.objects.Heap.set_form.Given.{Over}
use Rattle.tclv_heap.proofs.objects.Heap.set_form.Goals as goal
use Rattle.tclv_heap.proofs.objects.Heap.set_form.Goals.{After-replace-old, After-release_form}

-- after the write
written : (g : Over) (c : After-replace-old g) → let n = c.index_mut-object.result.now in let m : Object g.row.T-Form.Denot = record n { form = c.replace-old.new.dest; depth = c.args.depth } in let mid = set c.self.inside.objects.slots c.id.inside.0 (Some m) in IsSound g.T.Types.table mid × Takes g.T.Types.table.parts mid (form_parts g.T.Types.table.parts n.form) × ((p : ℕ) → IsSome (at c.self.inside.objects.slots p) → stands g.T.Types.table mid p ≡ stands g.T.Types.table c.self.inside.objects.slots p)
written g c =
    Set_form g.T.Types.table _ _ c.index_mut-object.result.now _ c.args.form c.self.invariant c.index_mut-object.ensures.value c.replace-old.ensures.after refl refl refl
    (rw (← c.self.view_is, ← c.id.view_is) at c.requires.has_text)
    (rw (← c.self.view_is, ← c.id.view_is) at c.requires.fits)
    (rw (← c.self.view_is) at c.requires.depth)
    (rw (← c.self.view_is) at c.requires.takes)
    (rw (← c.self.view_is, ← c.id.view_is) at c.requires.apart)

pub release_form-requires-clause-sound : goal.release_form-requires-clause-sound
release_form-requires-clause-sound g c = (written g (goal.at.release_form-requires-clause-sound g c).After-replace-old).0.sound

pub release_form-requires-clause-takes : goal.release_form-requires-clause-takes
release_form-requires-clause-takes g c = rw c.replace-old.ensures.value (written g (goal.at.release_form-requires-clause-takes g c).After-replace-old).1

keeps : (g : Over) (c : After-release_form g) → Keeps g.T.Types.table c.self.inside.objects.slots c.release_form.new.objects.slots
keeps g c =
    let w = written g (goal.at.After-release_form g c).After-replace-old in
    let n = c.index_mut-object.result.now in
    let m : Object g.row.T-Form.Denot = record n { form = c.replace-old.new.dest; depth = c.args.depth } in
    let mid = set c.self.inside.objects.slots c.id.inside.0 (Some m) in
    let mid_closed : IsClosed c.self.inside.objects.slots → IsClosed mid = λ closed. Closed_updates _ mid _ m closed (Updates_set _ _ n _ c.index_mut-object.ensures.value) (λ none. ap is_some c.replace-old.ensures.after) in
    let done = Set_form_done g.T.Types.table _ _ _ n _ _ c.index_mut-object.ensures.value w.0 w.2 c.release_form.ensures.released c.release_form.ensures.sound in
    record {
      sound = done.0;
      says = done.1;
      closed = λ closed. Closed_release g.T.Types.table.parts _ _ _ (mid_closed closed) c.release_form.ensures.released;
    }

pub invariant_of-self : goal.invariant_of-self
invariant_of-self g c = (keeps g (goal.at.invariant_of-self g c).After-release_form).sound

pub returns-clause-keeps : goal.returns-clause-keeps
returns-clause-keeps g c = rw (← c.self.view_is) (keeps g (goal.at.returns-clause-keeps g c).After-release_form)

pub returns-clause-holders : goal.returns-clause-holders
returns-clause-holders g c ids holders =
    let parts = g.T.Types.table.parts in
    let w = written g (goal.at.returns-clause-holders g c).After-replace-old in
    let n = c.index_mut-object.result.now in
    let before = rw (← c.self.view_is) at holders in
    let changed = Holders_change parts _ _ c.id.inside.0 n _ ids (rw c.replace-old.ensures.after before) c.index_mut-object.ensures.value (Updates_set _ _ n _ c.index_mut-object.ensures.value) refl w.1 in
    Holders_release parts _ _ _ ids (rw c.replace-old.ensures.value changed) c.release_form.ensures.released

pub returns-clause-stays : goal.returns-clause-stays
returns-clause-stays g c outside =
    let parts = g.T.Types.table.parts in
    let n = c.index_mut-object.result.now in
    let u = Updates_set _ _ n (Some (record n { form = c.replace-old.new.dest; depth = c.args.depth })) c.index_mut-object.ensures.value in
    rw (← c.id.view_is) (Reformed_stays parts _ _ _ c.id.inside.0 n _ c.args.form c.index_mut-object.ensures.value u refl c.replace-old.ensures.after (rw (← c.self.view_is, ← c.id.view_is) at c.requires.apart) (rw (← c.self.view_is, ← c.id.view_is) at outside) (rw (← c.replace-old.ensures.value) c.release_form.ensures.released))

pub returns-clause-rest_stays : goal.returns-clause-rest_stays
returns-clause-rest_stays g c n is none =
    let parts = g.T.Types.table.parts in
    let slots = c.self.inside.objects.slots in
    let is_in : at slots c.id.inside.0 ≡ Some n = rw (← c.self.view_is, ← c.id.view_is) at is in
    let same : c.index_mut-object.result.now ≡ n = (let e : Some c.index_mut-object.result.now ≡ Some n = sym c.index_mut-object.ensures.value ∙ is_in in cc) in
    let old_none = ap (form_parts parts) c.replace-old.ensures.value ∙ ap (λ (x : Object g.row.T-Form.Denot). form_parts parts x.form) same ∙ none in
    rw (← c.self.view_is, ← c.id.view_is) (c.release_form.ensures.none old_none ∙ ap (λ f. set slots c.id.inside.0 (Some (record c.index_mut-object.result.now { form = f; depth = c.args.depth }))) c.replace-old.ensures.after ∙ ap (λ (x : Object g.row.T-Form.Denot). set slots c.id.inside.0 (Some (record x { form = Some c.args.form; depth = c.args.depth }))) same)
