use Rattle.std.proofs.Common.{rules}
use Rattle.tclv_value.specs.Stacks.{top}
use Rattle.tclv_model.specs.Rows.{Unset}
use Rattle.tclv_reply.specs.Replies.{call_word}
use Rattle.tclv_engine.specs.State.{state_of}
use Rattle.tclv_plain.specs.CellRows.{row_of}
use Rattle.tclv_engine.proofs.Binds.{runs_as}
use Rattle.tclv_engine.proofs.DataLemmas.{ended_calm, over_call}
use Rattle.tclv_plain.proofs.CellLemmas.{alone_runs, alone_row, alone_stack, alone_reply, none_behind}
use Rattle.tclv_plain.proofs.cell_commands.cell_alone.Goals as goal

pub end_data-requires : goal.end_data-requires
end_data-requires g c =
    let stack = c.args.machine.now.values.store.stack in
    alone_reply (row_of c.args.command (call_word 0 stack) (top 0 stack) Unset) c.args.machine.now.values.store c.change_none-done.new.values.store c.change_none-done.result c.change_none-done.ensures.answer

pub returns-clause-answer : goal.returns-clause-answer
returns-clause-answer g c here w told =
    let stack = c.args.machine.now.values.store.stack in
    runs_as (alone_row c.args.command stack (state_of c.args.machine.now w) c.requires)
    (alone_runs c.args.command (call_word 0 stack) c.args.machine.now (record c.args.machine.now { values = c.change_none-done.new.values }) c.end_data.new.self w here told (search rules)
    (top 0 stack) c.change_none-done.result c.end_data.result (none_behind stack) c.change_none-done.ensures.answer c.end_data.ensures.refused)

pub returns-clause-stack : goal.returns-clause-stack
returns-clause-stack g c =
    let stack = c.args.machine.now.values.store.stack in
    over_call 1 stack c.end_data.result c.end_data.new.self.values.store.stack (search rules) c.requires
    (alone_stack (row_of c.args.command (call_word 0 stack) (top 0 stack) Unset) c.args.machine.now.values.store c.change_none-done.new.values.store c.change_none-done.result c.end_data.result c.end_data.new.self.values.store.stack c.change_none-done.ensures.answer c.end_data.ensures.given c.end_data.ensures.refused)

pub returns-clause-calm : goal.returns-clause-calm
returns-clause-calm g c = ended_calm c.change_none-done.result c.change_none-done.new.values.store.stack c.end_data.new.self.values.store.stack c.end_data.result c.end_data.ensures.given c.end_data.ensures.refused
