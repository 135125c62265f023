use Rattle.std.proofs.Common.{rules, ap, ◌-◌}
use Rattle.tclv_engine.specs.State.{state_of}
use Rattle.tclv_engine.proofs.Binds.{runs_as}
use Rattle.tclv_engine.proofs.Leaves.{raise_runs}
use Rattle.tclv_control.proofs.ErrorLemmas.{error_two, error_three, error_four, error_refused}
use Rattle.tclv_control.proofs.error_plans.plan_error.Goals as goal

pub returns-in-2-clause-answer : goal.returns-in-2-clause-answer
returns-in-2-clause-answer g c here w told =
    runs_as (error_two g.row.K.Denot c.args.machine.now.values.store.stack c.args.n (state_of c.args.machine.now w) c.requires.words _ c.in-2.is (ap (λ l. l - c.args.n) c.height.ensures))
    (raise_runs c.args.machine.now told c.raise_bare.ensures.same c.raise_bare.ensures.raises)

pub returns-in-3-clause-answer : goal.returns-in-3-clause-answer
returns-in-3-clause-answer g c here w told =
    runs_as (error_three g.row.K.Denot c.args.machine.now.values.store.stack c.args.n (state_of c.args.machine.now w) c.requires.words _ c.in-3.is (ap (λ l. l - c.args.n) c.height.ensures))
    (raise_runs c.args.machine.now told c.raise_bare-in-3.ensures.same c.raise_bare-in-3.ensures.raises)

pub returns-in-4-clause-answer : goal.returns-in-4-clause-answer
returns-in-4-clause-answer g c here w told =
    runs_as (error_four g.row.K.Denot c.args.machine.now.values.store.stack c.args.n (state_of c.args.machine.now w) c.requires.words _ c.in-4.is (ap (λ l. l - c.args.n) c.height.ensures))
    (raise_runs c.args.machine.now told c.raise_both.ensures.same c.raise_both.ensures.raises)

pub returns-in_default-clause-answer : goal.returns-in_default-clause-answer
returns-in_default-clause-answer g c here w told =
    runs_as (error_refused g.row.K.Denot c.args.machine.now.values.store.stack c.args.n (state_of c.args.machine.now w) c.requires.words
    (λ e. search (rules, e, c.in_default)) (λ e. search (rules, e, c.in_default)) (λ e. search (rules, e, c.in_default)))
    (c.misused.ensures.answer here w told)
