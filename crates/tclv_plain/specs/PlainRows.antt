-- The row of each command that evaluates no script.
use Rattle.std.specs.Prelude.{List}
use Rattle.tclv_plain.specs.declared.plain_commands.PlainCommand.{PlainCommand}
use Rattle.tclv_plain.specs.declared.plain_commands.PlainCommand.TheVariants as plain
use Rattle.tclv_engine.specs.State.{Text, State}
use Rattle.tclv_engine.specs.Results.{Res, Outcome}
use Rattle.tclv_plain.specs.VariableRows.{row_append, row_incr, row_set}
use Rattle.tclv_plain.specs.ChannelRows.{row_puts}
use Rattle.tclv_plain.specs.RunRows.{row_exit}
use Rattle.tclv_plain.specs.LoopRows.{row_break, row_continue}
use Rattle.tclv_plain.specs.DataRows.{data_row, row_of}
use Rattle.tclv_plain.specs.CellRows.{cell_row}
use Rattle.tclv_plain.specs.CellRows as cells
use Rattle.tclv_plain.specs.LinkRows.{row_global, row_upvar}
use Rattle.tclv_plain.specs.ListRows.{row_lassign}
use Rattle.tclv_plain.specs.ArrayRows.{row_array}
use Rattle.tclv_plain.specs.InfoRows.{row_info}
use Rattle.tclv_plain.specs.UnsetRows.{row_unset}

abbrev pub plain_row : {W : Type 0} → PlainCommand → List Text → (State W) → Res W Outcome
plain_row plain.Append = row_append
plain_row plain.Array = row_array
plain_row plain.Break = row_break
plain_row (plain.Cell c) = cell_row (cells.row_of c)
plain_row plain.Continue = row_continue
plain_row (plain.Data c) = data_row (row_of c)
plain_row plain.Exit = row_exit
plain_row plain.Global = row_global
plain_row plain.Incr = row_incr
plain_row plain.Info = row_info
plain_row plain.Lassign = row_lassign
plain_row plain.Puts = row_puts
plain_row plain.Set = row_set
plain_row plain.Unset = row_unset
plain_row plain.Upvar = row_upvar
