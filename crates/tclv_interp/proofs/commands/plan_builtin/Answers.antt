use Rattle.std.proofs.Common.{sym, ap}
use Rattle.tclv_value.specs.Stacks.{top}
use Rattle.tclv_engine.specs.State.{state_of}
use Rattle.tclv_engine.specs.Answers.{outer}
use Rattle.tclv_engine.proofs.Binds.{runs_as}
use Rattle.tclv_interp.specs.Commands.{wanted_builtin}
use Rattle.tclv_interp.proofs.commands.plan_builtin.Goals as goal

pub returns-in-Plain-clause-answer : goal.returns-in-Plain-clause-answer
returns-in-Plain-clause-answer g c w told =
    runs_as (ap (λ b. wanted_builtin b (top c.args.n c.args.machine.now.values.store.stack) (state_of c.args.machine.now w)) (sym c.in-Plain.is)) (c.plan_plain.ensures.answer w told)

pub returns-in-Control-clause-answer : goal.returns-in-Control-clause-answer
returns-in-Control-clause-answer g c w told =
    runs_as (ap (λ b. wanted_builtin b (top c.args.n c.args.machine.now.values.store.stack) (state_of c.args.machine.now w)) (sym c.in-Control.is))
    (c.plan_control.ensures.answer (outer (g.O.Outside.told c.args.out.now) (g.O.Outside.torn c.args.out.now)) w told)

pub returns-in-Code-clause-answer : goal.returns-in-Code-clause-answer
returns-in-Code-clause-answer g c w told =
    runs_as (ap (λ b. wanted_builtin b (top c.args.n c.args.machine.now.values.store.stack) (state_of c.args.machine.now w)) (sym c.in-Code.is))
    (c.plan_code.ensures.answer (outer (g.O.Outside.told c.args.out.now) (g.O.Outside.torn c.args.out.now)) w told)

pub returns-in-Proc-clause-answer : goal.returns-in-Proc-clause-answer
returns-in-Proc-clause-answer g c w told =
    runs_as (ap (λ b. wanted_builtin b (top c.args.n c.args.machine.now.values.store.stack) (state_of c.args.machine.now w)) (sym c.in-Proc.is))
    (c.plan_proc.ensures.answer (outer (g.O.Outside.told c.args.out.now) (g.O.Outside.torn c.args.out.now)) w told)

pub returns-in-Info-clause-answer : goal.returns-in-Info-clause-answer
returns-in-Info-clause-answer g c w told =
    runs_as (ap (λ b. wanted_builtin b (top c.args.n c.args.machine.now.values.store.stack) (state_of c.args.machine.now w)) (sym c.in-Info.is)) (c.plan_info.ensures.answer w told)
