use Rattle.std.proofs.Common.{rules, ap, ◌≤◌, length, arith}
use Rattle.tclv_engine.specs.Plans.{AtLevel}
use Rattle.tclv_engine.proofs.Leaves.{memory_runs, value_runs}
use Rattle.tclv_control.proofs.ScriptLemmas.{joined_at}
use Rattle.tclv_control.proofs.level_plans.run_at.Goals as goal

pub returns-in_err-join_words-clause-answer : goal.returns-in_err-join_words-clause-answer
returns-in_err-join_words-clause-answer g c here w told = memory_runs (search rules) told c.in_err-join_words.ensures.same.events

pub returns-clause-answer : goal.returns-clause-answer
returns-clause-answer g c here w told =
    let stack = c.args.machine.now.values.store.stack in
    let joined = c.in_ok-join_words.ensures in
    let words : c.args.n ≤ length stack = omega (arith, c.requires) in
    value_runs c.args.machine.now told joined.same (ap (λ t. AtLevel c.args.level t c.args.hand_on) (joined_at c.args.n stack _ _ words joined.joined _ joined.place))
