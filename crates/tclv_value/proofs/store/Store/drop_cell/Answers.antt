use Rattle.std.proofs.Common.{◌≡◌, ◌∷◌, ◌<◌, ℕ, sym, ap, ◌∙◌}
use Rattle.tclv_heap.specs.Graph.{occurs}
use Rattle.std.specs.FinMap.{remove}
use Rattle.tclv_value.specs.View.{View}
use Rattle.tclv_value.specs.Places.{text_of, places}
use Rattle.tclv_value.proofs.ViewLemmas.{Shift, drop_stack, drop_cells, drop_keeps}
use Rattle.tclv_value.proofs.CellLemmas.{by_cell_gone}
use Rattle.tclv_value.proofs.GraphLemmas.{still_released, placed_released, released_outside, drop_splits, drop_was}
use Rattle.tclv_value.proofs.store.Store.drop_cell.Goals as goal
use Rattle.tclv_value.proofs.store.Store.drop_cell.Goals.{In-Some, After-release}

splits : (c : In-Some) (x : ℕ) → occurs x (places c.self.inside.stack.items c.self.inside.cells.entries) ≡ occurs x (c.in-Some.id ∷ places c.self.inside.stack.items c.swap_remove.new.self.entries)
splits c = drop_splits c.self.inside.stack.items c.self.inside.cells.entries c.swap_remove.new.self.entries c.args.cell c.in-Some.id c.swap_remove.ensures.entries (sym c.swap_remove.ensures.value ∙ c.in-Some.is)

pub release-requires : goal.release-requires
release-requires c =
    released_outside c.self.inside.heap.graph c.self.inside.heap.graph c.self.inside.stack.items c.self.inside.stack.items c.self.inside.cells.entries c.swap_remove.new.self.entries c.in-Some.id c.self.invariant (splits (goal.at.release-requires c).In-Some)

shift : (c : After-release) → Shift c.self.inside.heap.graph c.self.inside.stack.items c.self.inside.cells.entries c.release.new.self.graph c.self.inside.stack.items c.swap_remove.new.self.entries
shift c = record {
  before = c.self.invariant;
  after = placed_released _ _ _ _ _ _ _ c.self.invariant (splits (goal.at.After-release c).In-Some) c.release.ensures.holders c.release.ensures.keeps;
  still = still_released _ _ _ c.release.ensures.released c.release.ensures.keeps;
}

was : (c : In-Some) (p : ℕ) → 0 < occurs p (places c.self.inside.stack.items c.swap_remove.new.self.entries) → 0 < occurs p (places c.self.inside.stack.items c.self.inside.cells.entries)
was c = drop_was c.self.inside.stack.items c.self.inside.cells.entries c.swap_remove.new.self.entries c.in-Some.id (splits c)

pub invariant_of-self : goal.invariant_of-self
invariant_of-self c = (shift (goal.at.invariant_of-self c).After-release).after

pub returns-in-Some-clause-stack : goal.returns-in-Some-clause-stack
returns-in-Some-clause-stack c = drop_stack _ _ _ _ _ _ (shift (goal.at.returns-in-Some-clause-stack c).After-release) c.swap_remove.ensures.updates.0 (was (goal.at.returns-in-Some-clause-stack c).In-Some) _ c.self.view_is

pub returns-in-Some-clause-cells : goal.returns-in-Some-clause-cells
returns-in-Some-clause-cells c = drop_cells _ _ _ _ _ _ (shift (goal.at.returns-in-Some-clause-cells c).After-release) c.swap_remove.ensures.updates.0 (was (goal.at.returns-in-Some-clause-cells c).In-Some) _ c.self.view_is

pub returns-in-Some-clause-keeps : goal.returns-in-Some-clause-keeps
returns-in-Some-clause-keeps c = drop_keeps _ _ _ _ _ _ (shift (goal.at.returns-in-Some-clause-keeps c).After-release) c.swap_remove.ensures.updates.0 (was (goal.at.returns-in-Some-clause-keeps c).In-Some) _ c.self.view_is

pub returns-in_default-clause-cells : goal.returns-in_default-clause-cells
returns-in_default-clause-cells c =
    by_cell_gone (text_of c.self.inside.heap.graph) c.self.inside.cells.entries c.swap_remove.new.self.entries c.args.cell c.swap_remove.ensures.updates.0 ∙ ap (λ (v : View). remove v.cells c.args.cell) c.self.view_is
