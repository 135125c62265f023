-- The rows of data commands, which touch only values: what the answer of such a row does.
use Rattle.std.specs.Prelude.{List}
use Rattle.tclv_model.specs.Rows.{RowAnswer}
use Rattle.tclv_lists.specs.Making.{row_list, row_lrepeat}
use Rattle.tclv_lists.specs.Reading.{row_lindex, row_llength, row_lrange}
use Rattle.tclv_lists.specs.Joining.{row_concat, row_join, row_split}
use Rattle.tclv_lists.specs.Searching.{row_lsearch}
use Rattle.tclv_lists.specs.Sequences.{row_lseq}
use Rattle.tclv_lists.specs.Sorting.{row_lsort}
use Rattle.tclv_lists.specs.Changing.{row_linsert, row_lremove, row_lreplace, row_lreverse}
use Rattle.tclv_strings.specs.Subcommands.{row_string}
use Rattle.tclv_plain.specs.declared.data_commands.DataCommand.{DataCommand}
use Rattle.tclv_plain.specs.declared.data_commands.DataCommand.TheVariants as command
use Rattle.tclv_engine.specs.State.{Text, State}
use Rattle.tclv_engine.specs.Results.{Res, Outcome, bind, ok}
use Rattle.tclv_engine.specs.Usages.{call_word}
use Rattle.tclv_engine.specs.DataAnswers.{of_answer, arguments}

-- What a data command does whose row this is: the result is that of the row.
abbrev pub data_row : {W : Type 0} → (Text → List Text → RowAnswer) → List Text → (State W) → Res W Outcome
data_row row words st = bind (of_answer (row (call_word words) (arguments words)) st) ok

-- the row of each data command
abbrev pub row_of : DataCommand → Text → List Text → RowAnswer
row_of command.Concat = row_concat
row_of command.Join = row_join
row_of command.Lindex = row_lindex
row_of command.Linsert = row_linsert
row_of command.List = row_list
row_of command.Llength = row_llength
row_of command.Lrange = row_lrange
row_of command.Lremove = row_lremove
row_of command.Lrepeat = row_lrepeat
row_of command.Lreplace = row_lreplace
row_of command.Lreverse = row_lreverse
row_of command.Lsearch = row_lsearch
row_of command.Lseq = row_lseq
row_of command.Lsort = row_lsort
row_of command.Split = row_split
row_of command.String = row_string
