use Rattle.std.proofs.Common.{rules, ap, ◌-◌, ◌≤◌, length, arith}
use Rattle.tclv_engine.specs.State.{state_of}
use Rattle.tclv_engine.specs.Plans.{Run}
use Rattle.tclv_engine.proofs.Binds.{runs_as}
use Rattle.tclv_engine.proofs.Leaves.{memory_runs, value_runs}
use Rattle.tclv_control.proofs.ScriptLemmas.{eval_refused, eval_joined, joined_at}
use Rattle.tclv_control.proofs.script_plans.plan_eval.Goals as goal

pub returns-in_err-join_words-in_default-clause-answer : goal.returns-in_err-join_words-in_default-clause-answer
returns-in_err-join_words-in_default-clause-answer g c here w told = memory_runs (search rules) told c.in_err-join_words-in_default.ensures.same.events

pub returns-in-1-clause-answer : goal.returns-in-1-clause-answer
returns-in-1-clause-answer g c here w told =
    runs_as (eval_refused {K = g.row.K.Denot} c.args.machine.now.values.store.stack c.args.n (state_of c.args.machine.now w) c.requires.words c.args.hand_on c.in-1.is)
    (c.misused.ensures.answer here w told)

pub returns-in_ok-join_words-in_default-clause-answer : goal.returns-in_ok-join_words-in_default-clause-answer
returns-in_ok-join_words-in_default-clause-answer g c here w told =
    let stack = c.args.machine.now.values.store.stack in
    let joined = c.in_ok-join_words-in_default.ensures in
    let words : c.args.n - 1 ≤ length stack = omega (arith, c.requires.words) in
    runs_as (eval_joined {K = g.row.K.Denot} stack c.args.n (state_of c.args.machine.now w) c.requires.words c.args.hand_on c.requires.some (λ e. search (rules, e, c.in_default)))
    (value_runs c.args.machine.now told joined.same (ap (λ t. Run t c.args.hand_on) (joined_at (c.args.n - 1) stack _ _ words joined.joined _ joined.place)))
