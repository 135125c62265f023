use Rattle.std.proofs.Common.{rules, refl, ap, ◌∙◌, ◌-◌, [], get_or, length}
use Rattle.tclv_value.specs.Stacks.{top}
use Rattle.tclv_reply.specs.Replies.{call_word}
use Rattle.tclv_engine.specs.State.{state_of}
use Rattle.tclv_plain.specs.CellRows.{row_of, cell_row, on_variable}
use Rattle.tclv_engine.proofs.Binds.{runs_as}
use Rattle.tclv_engine.proofs.Leaves.{memory_runs, from_same}
use Rattle.tclv_plain.proofs.CellLemmas.{named_row}
use Rattle.tclv_plain.proofs.cell_commands.cmd_cell.Goals as goal

pub returns-then-n-eq1-clause-answer : goal.returns-then-n-eq1-clause-answer
returns-then-n-eq1-clause-answer g c here w told =
    runs_as (ap (λ n. cell_row (row_of c.args.command) (top n c.args.machine.now.values.store.stack) (state_of c.args.machine.now w)) (search rules)) (c.cell_alone.ensures.answer here w told)

pub returns-in_err-make_text-clause-answer : goal.returns-in_err-make_text-clause-answer
returns-in_err-make_text-clause-answer g c here w told = memory_runs (search rules) told refl

pub returns-clause-answer : goal.returns-clause-answer
returns-clause-answer g c here w told =
    let mid = record c.args.machine.now { values = c.make_text.new.self } in
    let stack = c.args.machine.now.values.store.stack in
    let row = row_of c.args.command in
    from_same c.args.machine.now mid (cell_row row (top c.args.n stack)) (search rules)
    (runs_as
    (ap (λ s. on_variable (get_or s (length s - (c.args.n - 1)) []) (row (call_word (c.args.n - 1) s) (top (c.args.n - 1) s)) (state_of mid w)) c.in_ok-make_text.ensures.stack
    ∙ named_row c.args.command stack c.args.n (state_of mid w) (search rules) c.requires.words)
    (c.cell_made.ensures.answer here w told))
