use Rattle.std.proofs.Common.{sym, ap}
use Rattle.tclv_value.specs.Stacks.{top}
use Rattle.tclv_engine.specs.State.{state_of}
use Rattle.tclv_engine.specs.Answers.{outer}
use Rattle.tclv_engine.proofs.Binds.{runs_as}
use Rattle.tclv_interp.specs.Builtins.{target_of}
use Rattle.tclv_interp.specs.Commands.{wanted}
use Rattle.tclv_interp.proofs.commands.plan_target.Goals as goal

pub returns-in-Builtin-clause-answer : goal.returns-in-Builtin-clause-answer
returns-in-Builtin-clause-answer g c w told =
    runs_as (ap (λ f. wanted (target_of f) (top c.args.n c.args.machine.now.values.store.stack) (state_of c.args.machine.now w)) (sym c.in-Builtin.is)) (c.plan_builtin.ensures.answer w told)

pub returns-in-Procedure-clause-answer : goal.returns-in-Procedure-clause-answer
returns-in-Procedure-clause-answer g c w told =
    runs_as (ap (λ f. wanted (target_of f) (top c.args.n c.args.machine.now.values.store.stack) (state_of c.args.machine.now w)) (sym c.in-Procedure.is))
    (c.plan_call.ensures.answer (outer (g.O.Outside.told c.args.out.now) (g.O.Outside.torn c.args.out.now)) w told)
