use Rattle.std.proofs.Common.{◌≡◌}
use Rattle.std.specs.FinMap.{len}
use Rattle.tclv_value.specs.View.{KeepsMade}
use Rattle.tclv_vars.specs.Clearing.{without_names, Apart}
use Rattle.tclv_vars.proofs.clearing.clear_names.Given as goal

abbrev pub invariant-loop-slot : goal.invariant-loop-slot
invariant-loop-slot l = Apart l.cells.map l.names × (without_names l.cells.map l.cells.map l.names ≡ without_names l.fn.cells.map l.fn.cells.map l.fn.names)
    × (without_names l.store.cells l.cells.map l.names ≡ without_names l.fn.store.cells l.fn.cells.map l.fn.names) × (l.store.stack ≡ l.fn.store.stack) × KeepsMade l.fn.store l.store

abbrev pub decreases-loop-slot : goal.decreases-loop-slot
decreases-loop-slot l = len l.names
