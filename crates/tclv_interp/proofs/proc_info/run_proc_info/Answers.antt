use Rattle.std.proofs.Common.{sym, ap}
use Rattle.tclv_value.specs.Stacks.{top}
use Rattle.tclv_engine.specs.State.{state_of}
use Rattle.tclv_engine.proofs.Binds.{runs_as}
use Rattle.tclv_interp.specs.ProcInfoRows.{proc_info_row}
use Rattle.tclv_interp.proofs.proc_info.run_proc_info.Goals as goal

pub returns-in-Args-clause-answer : goal.returns-in-Args-clause-answer
returns-in-Args-clause-answer c here w told =
    runs_as (ap (λ k. proc_info_row k (top c.args.n c.args.machine.now.values.store.stack) (state_of c.args.machine.now w)) (sym c.in-Args.is)) (c.run_args.ensures.answer here w told)

pub returns-in-Body-clause-answer : goal.returns-in-Body-clause-answer
returns-in-Body-clause-answer c here w told =
    runs_as (ap (λ k. proc_info_row k (top c.args.n c.args.machine.now.values.store.stack) (state_of c.args.machine.now w)) (sym c.in-Body.is)) (c.run_body.ensures.answer here w told)

pub returns-in-Default-clause-answer : goal.returns-in-Default-clause-answer
returns-in-Default-clause-answer c here w told =
    runs_as (ap (λ k. proc_info_row k (top c.args.n c.args.machine.now.values.store.stack) (state_of c.args.machine.now w)) (sym c.in-Default.is)) (c.run_default.ensures.answer here w told)

pub returns-in-Level-clause-answer : goal.returns-in-Level-clause-answer
returns-in-Level-clause-answer c here w told =
    runs_as (ap (λ k. proc_info_row k (top c.args.n c.args.machine.now.values.store.stack) (state_of c.args.machine.now w)) (sym c.in-Level.is)) (c.run_level.ensures.answer here w told)
