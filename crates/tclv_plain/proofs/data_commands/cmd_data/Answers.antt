use Rattle.std.proofs.Common.{rules, ap, ◌∙◌, ◌-◌}
use Rattle.tclv_value.specs.Stacks.{top}
use Rattle.tclv_reply.specs.Replies.{call_word}
use Rattle.tclv_engine.specs.State.{state_of}
use Rattle.tclv_engine.specs.Results.{bind, ok}
use Rattle.tclv_engine.specs.DataAnswers.{of_answer}
use Rattle.tclv_plain.specs.DataRows.{row_of}
use Rattle.tclv_engine.specs.Usages as usages
use Rattle.tclv_engine.proofs.Binds.{runs_as}
use Rattle.tclv_engine.proofs.DataLemmas.{call_is, arguments_are, data_runs, data_stack, replied, ended_calm, over_call}
use Rattle.tclv_plain.proofs.data_commands.cmd_data.Goals as goal

pub end_data-requires : goal.end_data-requires
end_data-requires g c =
    let stack = c.args.machine.now.values.store.stack in
    replied (row_of c.args.command (call_word (c.args.n - 1) stack) (top (c.args.n - 1) stack)) (c.args.n - 1) c.args.machine.now.values.store c.call_data-done.new.values.store c.call_data-done.result c.call_data-done.ensures.answer

pub returns-clause-answer : goal.returns-clause-answer
returns-clause-answer g c here w told =
    let stack = c.args.machine.now.values.store.stack in
    let row = row_of c.args.command in
    let k = c.args.n - 1 in
    runs_as
    (ap (λ call. bind (of_answer (row call (top k stack)) (state_of c.args.machine.now w)) ok) (call_is stack c.args.n c.requires.some c.requires.words)
    ∙ ap (λ ws. bind (of_answer (row (usages.call_word (top c.args.n stack)) ws) (state_of c.args.machine.now w)) ok) (arguments_are stack c.args.n c.requires.some c.requires.words))
    (data_runs (row (call_word k stack) (top k stack)) k c.args.machine.now.values.store c.call_data-done.new.values.store c.call_data-done.result c.end_data.result c.args.machine.now c.end_data.new.self w here told (search rules)
    c.call_data-done.ensures.answer c.end_data.ensures.given c.end_data.ensures.refused)

pub returns-clause-stack : goal.returns-clause-stack
returns-clause-stack g c =
    let stack = c.args.machine.now.values.store.stack in
    let k = c.args.n - 1 in
    over_call c.args.n stack c.end_data.result c.end_data.new.self.values.store.stack c.requires.some c.requires.words
    (data_stack (row_of c.args.command (call_word k stack) (top k stack)) k c.args.machine.now.values.store c.call_data-done.new.values.store c.call_data-done.result c.end_data.result c.end_data.new.self.values.store.stack c.call_data-done.ensures.answer c.end_data.ensures.given c.end_data.ensures.refused)

pub returns-clause-calm : goal.returns-clause-calm
returns-clause-calm g c = ended_calm c.call_data-done.result c.call_data-done.new.values.store.stack c.end_data.new.self.values.store.stack c.end_data.result c.end_data.ensures.given c.end_data.ensures.refused
