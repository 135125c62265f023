use Rattle.std.proofs.Common.{◌≡◌, ◌++◌, ◌∷◌, [], sym, ap, subst, ◌∙◌}
use Rattle.std.specs.Option.{option_to_list}
use Rattle.tclv_value.specs.Places.{IsPlaced, view_of}
use Rattle.tclv_value.specs.ListObjects.{KeepsCells}
use Rattle.tclv_value.specs.View.{View}
use Rattle.tclv_value.proofs.ViewLemmas.{Shift, top_stack, pop_cells, pop_keeps}
use Rattle.tclv_value.proofs.GraphLemmas.{still_released, placed_released, pop_splits}
use Rattle.tclv_value.proofs.store.Store.pop_one.Goals as goal
use Rattle.tclv_value.proofs.store.Store.pop_one.Goals.{In-Some, After-release}

ends : (c : In-Some) → c.self.inside.stack.items ≡ c.pop.new.self.items ++ c.in-Some.id ∷ []
ends c = c.pop.ensures.items ∙ ap (λ r. c.pop.new.self.items ++ option_to_list r) c.in-Some.is

shift : (c : After-release) → Shift c.self.inside.heap.graph (c.pop.new.self.items ++ c.in-Some.id ∷ []) c.self.inside.cells.entries c.release.new.self.graph c.pop.new.self.items c.self.inside.cells.entries
shift c =
    let before = subst (λ xs. IsPlaced c.self.inside.heap.graph xs c.self.inside.cells.entries) (ends (goal.at.After-release c).In-Some) c.self.invariant in
    record {
      before = before;
      after = placed_released _ _ _ _ _ _ _ before (pop_splits c.pop.new.self.items c.self.inside.cells.entries c.in-Some.id) c.release.ensures.holders c.release.ensures.keeps;
      still = still_released _ _ _ c.release.ensures.released c.release.ensures.keeps;
    }

pub invariant_of-self : goal.invariant_of-self
invariant_of-self c = (shift (goal.at.invariant_of-self c).After-release).after

pub returns-in-Some-clause-popped : goal.returns-in-Some-clause-popped
returns-in-Some-clause-popped c = top_stack _ _ _ _ _ _ (shift (goal.at.returns-in-Some-clause-popped c).After-release) _ (ap (λ xs. view_of c.self.inside.heap.graph c.self.inside.heap.stats xs c.self.inside.cells.entries) (sym (ends (goal.at.returns-in-Some-clause-popped c).In-Some)) ∙ c.self.view_is)

pub returns-in-Some-clause-cells : goal.returns-in-Some-clause-cells
returns-in-Some-clause-cells c = pop_cells _ _ _ _ _ (shift (goal.at.returns-in-Some-clause-cells c).After-release) _ (ap (λ xs. view_of c.self.inside.heap.graph c.self.inside.heap.stats xs c.self.inside.cells.entries) (sym (ends (goal.at.returns-in-Some-clause-cells c).In-Some)) ∙ c.self.view_is)

pub returns-in-Some-clause-keeps : goal.returns-in-Some-clause-keeps
returns-in-Some-clause-keeps c = pop_keeps _ _ _ _ _ (shift (goal.at.returns-in-Some-clause-keeps c).After-release) _ (ap (λ xs. view_of c.self.inside.heap.graph c.self.inside.heap.stats xs c.self.inside.cells.entries) (sym (ends (goal.at.returns-in-Some-clause-keeps c).In-Some)) ∙ c.self.view_is)

pub returns-in-Some-clause-objects : goal.returns-in-Some-clause-objects
unfolding KeepsCells
returns-in-Some-clause-objects c = (ap (λ (v : View). v.cell_ids) c.self.view_is, ap (λ h. h.stats) c.release.ensures.rest ∙ ap (λ (v : View). v.stats) c.self.view_is)
