use Rattle.std.proofs.Common.{rules, refl, ap, ◌-◌}
use Rattle.tclv_engine.specs.State.{state_of}
use Rattle.tclv_engine.proofs.Binds.{runs_as}
use Rattle.tclv_engine.proofs.Leaves.{done_runs}
use Rattle.tclv_control.proofs.WhileLemmas.{while_three, while_refused}
use Rattle.tclv_control.proofs.while_plans.plan_while.Goals as goal

pub returns-in-3-clause-answer : goal.returns-in-3-clause-answer
returns-in-3-clause-answer g c here w told =
    runs_as (while_three g.row.K.Denot c.args.machine.now.values.store.stack c.args.n (state_of c.args.machine.now w) c.requires.words _ c.in-3.is (ap (λ l. l - c.args.n) c.height.ensures))
    (done_runs told refl refl)

pub returns-in_default-clause-answer : goal.returns-in_default-clause-answer
returns-in_default-clause-answer g c here w told =
    runs_as (while_refused g.row.K.Denot c.args.machine.now.values.store.stack c.args.n (state_of c.args.machine.now w) c.requires.words (λ e. search (rules, e, c.in_default)))
    (c.misused.ensures.answer here w told)
