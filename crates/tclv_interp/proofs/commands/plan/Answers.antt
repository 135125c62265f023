use Rattle.std.proofs.Common.{rules, ap, ◌∙◌}
use Rattle.tclv_value.specs.Stacks.{top}
use Rattle.tclv_engine.specs.State.{state_of}
use Rattle.tclv_engine.specs.Answers.{outer}
use Rattle.tclv_engine.proofs.Binds.{bind_ok, then_stop, runs_as}
use Rattle.tclv_interp.specs.Builtins.{target_of}
use Rattle.tclv_interp.specs.Commands.{wanted}
use Rattle.tclv_interp.proofs.CommandLemmas.{plan-some}
use Rattle.tclv_interp.proofs.commands.plan.Goals as goal

pub returns-in_err-target-clause-answer : goal.returns-in_err-target-clause-answer
returns-in_err-target-clause-answer g c w told =
    runs_as (plan-some c.args.n c.args.machine.now.values.store.stack (state_of c.args.machine.now w) c.requires.some c.requires.words)
    (then_stop _ (search rules) (c.in_err-target.ensures.answer (outer (g.O.Outside.told c.args.out.now) (g.O.Outside.torn c.args.out.now)) w told))

pub returns-clause-answer : goal.returns-clause-answer
returns-clause-answer g c w told =
    runs_as (plan-some c.args.n c.args.machine.now.values.store.stack (state_of c.args.machine.now w) c.requires.some c.requires.words)
    (bind_ok _ (c.in_ok-target.ensures.answer (outer (g.O.Outside.told c.args.out.now) (g.O.Outside.torn c.args.out.now)) w told)
    (λ b v e shown. runs_as
    (ap (λ s. wanted (target_of c.in_ok-target.target) (top c.args.n s) (state_of c.resolve.new.machine v)) c.in_ok-target.ensures.stack
    ∙ ap (λ x. wanted x (top c.args.n c.args.machine.now.values.store.stack) (state_of c.resolve.new.machine v)) shown)
    (c.plan_target.ensures.answer v e)))
