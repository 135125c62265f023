use Rattle.std.proofs.Common.{◌≡◌}
use Rattle.std.specs.FinMap.{len}
use Rattle.tclv_names.specs.Keyed.{values_of}
use Rattle.tclv_value.specs.View.{KeepsMade}
use Rattle.tclv_vars.specs.Clearing.{without}
use Rattle.tclv_vars.proofs.clearing.clear_elements.Given as goal

abbrev pub invariant-loop-cell : goal.invariant-loop-cell
invariant-loop-cell l = (without l.cells.map (values_of l.elements) ≡ without l.fn.cells.map (values_of l.fn.elements))
    × (without l.store.cells (values_of l.elements) ≡ without l.fn.store.cells (values_of l.fn.elements)) × (l.store.stack ≡ l.fn.store.stack) × KeepsMade l.fn.store l.store

abbrev pub decreases-loop-cell : goal.decreases-loop-cell
decreases-loop-cell l = len l.elements
