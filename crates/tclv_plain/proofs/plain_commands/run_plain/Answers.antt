use Rattle.std.proofs.Common.{ap, sym}
use Rattle.tclv_value.specs.Stacks.{top}
use Rattle.tclv_engine.specs.State.{state_of}
use Rattle.tclv_engine.specs.Answers.{outer}
use Rattle.tclv_engine.proofs.Binds.{runs_as}
use Rattle.tclv_plain.specs.PlainRows.{plain_row}
use Rattle.tclv_plain.proofs.plain_commands.run_plain.Goals as goal

pub returns-in-Append-clause-answer : goal.returns-in-Append-clause-answer
returns-in-Append-clause-answer g c w told =
    runs_as (ap (λ b. plain_row b (top c.args.n c.args.machine.now.values.store.stack) (state_of c.args.machine.now w)) (sym c.in-Append.is))
    (c.cmd_append.ensures.answer (outer (g.O.Outside.told c.args.out.now) (g.O.Outside.torn c.args.out.now)) w told)

pub returns-in-Break-clause-answer : goal.returns-in-Break-clause-answer
returns-in-Break-clause-answer g c w told =
    runs_as (ap (λ b. plain_row b (top c.args.n c.args.machine.now.values.store.stack) (state_of c.args.machine.now w)) (sym c.in-Break.is))
    (c.cmd_break.ensures.answer (outer (g.O.Outside.told c.args.out.now) (g.O.Outside.torn c.args.out.now)) w told)

pub returns-in-Cell-clause-answer : goal.returns-in-Cell-clause-answer
returns-in-Cell-clause-answer g c w told =
    runs_as (ap (λ b. plain_row b (top c.args.n c.args.machine.now.values.store.stack) (state_of c.args.machine.now w)) (sym c.in-Cell.is))
    (c.cmd_cell.ensures.answer (outer (g.O.Outside.told c.args.out.now) (g.O.Outside.torn c.args.out.now)) w told)

pub returns-in-Continue-clause-answer : goal.returns-in-Continue-clause-answer
returns-in-Continue-clause-answer g c w told =
    runs_as (ap (λ b. plain_row b (top c.args.n c.args.machine.now.values.store.stack) (state_of c.args.machine.now w)) (sym c.in-Continue.is))
    (c.cmd_continue.ensures.answer (outer (g.O.Outside.told c.args.out.now) (g.O.Outside.torn c.args.out.now)) w told)

pub returns-in-Data-clause-answer : goal.returns-in-Data-clause-answer
returns-in-Data-clause-answer g c w told =
    runs_as (ap (λ b. plain_row b (top c.args.n c.args.machine.now.values.store.stack) (state_of c.args.machine.now w)) (sym c.in-Data.is))
    (c.cmd_data.ensures.answer (outer (g.O.Outside.told c.args.out.now) (g.O.Outside.torn c.args.out.now)) w told)

pub returns-in-Exit-clause-answer : goal.returns-in-Exit-clause-answer
returns-in-Exit-clause-answer g c w told =
    runs_as (ap (λ b. plain_row b (top c.args.n c.args.machine.now.values.store.stack) (state_of c.args.machine.now w)) (sym c.in-Exit.is))
    (c.cmd_exit.ensures.answer (outer (g.O.Outside.told c.args.out.now) (g.O.Outside.torn c.args.out.now)) w told)

pub returns-in-Incr-clause-answer : goal.returns-in-Incr-clause-answer
returns-in-Incr-clause-answer g c w told =
    runs_as (ap (λ b. plain_row b (top c.args.n c.args.machine.now.values.store.stack) (state_of c.args.machine.now w)) (sym c.in-Incr.is))
    (c.cmd_incr.ensures.answer (outer (g.O.Outside.told c.args.out.now) (g.O.Outside.torn c.args.out.now)) w told)

pub returns-in-Lassign-clause-answer : goal.returns-in-Lassign-clause-answer
returns-in-Lassign-clause-answer g c w told =
    runs_as (ap (λ b. plain_row b (top c.args.n c.args.machine.now.values.store.stack) (state_of c.args.machine.now w)) (sym c.in-Lassign.is))
    (c.cmd_lassign.ensures.answer (outer (g.O.Outside.told c.args.out.now) (g.O.Outside.torn c.args.out.now)) w told)

pub returns-in-Puts-clause-answer : goal.returns-in-Puts-clause-answer
returns-in-Puts-clause-answer g c w told =
    runs_as (ap (λ b. plain_row b (top c.args.n c.args.machine.now.values.store.stack) (state_of c.args.machine.now w)) (sym c.in-Puts.is))
    (c.cmd_puts.ensures.answer w told)

pub returns-in-Set-clause-answer : goal.returns-in-Set-clause-answer
returns-in-Set-clause-answer g c w told =
    runs_as (ap (λ b. plain_row b (top c.args.n c.args.machine.now.values.store.stack) (state_of c.args.machine.now w)) (sym c.in-Set.is))
    (c.cmd_set.ensures.answer (outer (g.O.Outside.told c.args.out.now) (g.O.Outside.torn c.args.out.now)) w told)

pub returns-in-Global-clause-answer : goal.returns-in-Global-clause-answer
returns-in-Global-clause-answer g c w told =
    runs_as (ap (λ b. plain_row b (top c.args.n c.args.machine.now.values.store.stack) (state_of c.args.machine.now w)) (sym c.in-Global.is))
    (c.cmd_global.ensures.answer (outer (g.O.Outside.told c.args.out.now) (g.O.Outside.torn c.args.out.now)) w told)

pub returns-in-Upvar-clause-answer : goal.returns-in-Upvar-clause-answer
returns-in-Upvar-clause-answer g c w told =
    runs_as (ap (λ b. plain_row b (top c.args.n c.args.machine.now.values.store.stack) (state_of c.args.machine.now w)) (sym c.in-Upvar.is))
    (c.cmd_upvar.ensures.answer (outer (g.O.Outside.told c.args.out.now) (g.O.Outside.torn c.args.out.now)) w told)

pub returns-in-Array-clause-answer : goal.returns-in-Array-clause-answer
returns-in-Array-clause-answer g c w told =
    runs_as (ap (λ b. plain_row b (top c.args.n c.args.machine.now.values.store.stack) (state_of c.args.machine.now w)) (sym c.in-Array.is))
    (c.cmd_array.ensures.answer (outer (g.O.Outside.told c.args.out.now) (g.O.Outside.torn c.args.out.now)) w told)

pub returns-in-Info-clause-answer : goal.returns-in-Info-clause-answer
returns-in-Info-clause-answer g c w told =
    runs_as (ap (λ b. plain_row b (top c.args.n c.args.machine.now.values.store.stack) (state_of c.args.machine.now w)) (sym c.in-Info.is))
    (c.cmd_info.ensures.answer (outer (g.O.Outside.told c.args.out.now) (g.O.Outside.torn c.args.out.now)) w told)

pub returns-in-Unset-clause-answer : goal.returns-in-Unset-clause-answer
returns-in-Unset-clause-answer g c w told =
    runs_as (ap (λ b. plain_row b (top c.args.n c.args.machine.now.values.store.stack) (state_of c.args.machine.now w)) (sym c.in-Unset.is))
    (c.cmd_unset.ensures.answer (outer (g.O.Outside.told c.args.out.now) (g.O.Outside.torn c.args.out.now)) w told)
