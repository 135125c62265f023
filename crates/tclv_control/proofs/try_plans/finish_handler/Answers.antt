use Rattle.std.proofs.Common.{sym, ap}
use Rattle.tclv_engine.specs.State.{state_of}
use Rattle.tclv_engine.specs.Answers.{last_of}
use Rattle.tclv_engine.specs.Plans.{concluded}
use Rattle.tclv_engine.proofs.Binds.{runs_as}
use Rattle.tclv_control.specs.declared.behind.Behind.{Behind}
use Rattle.tclv_control.specs.TryRows.{at_last}
use Rattle.tclv_control.proofs.HandingLemmas.{handed_runs, handed_leaves, handed_caused}
use Rattle.tclv_control.proofs.try_plans.finish_handler.Goals as goal

pub returns-in-Some-clause-answer : goal.returns-in-Some-clause-answer
returns-in-Some-clause-answer g c here w told =
    runs_as (ap (λ f. at_last f (concluded c.args.ended (last_of c.args.machine.now.values.store.stack)) (state_of c.args.machine.now w)) (sym c.in-Some.is)) (c.plan_last.ensures.answer here w told)

pub returns-in-None-clause-answer : goal.returns-in-None-clause-answer
returns-in-None-clause-answer g c here w told =
    runs_as (ap (λ f. at_last f (concluded c.args.ended (last_of c.args.machine.now.values.store.stack)) (state_of c.args.machine.now w)) (sym c.in-None.is))
    (handed_runs Behind c.args.ended c.hand_on.result c.args.machine.now w here told c.hand_on.ensures)

pub returns-in-None-clause-stack : goal.returns-in-None-clause-stack
returns-in-None-clause-stack g c = handed_leaves c.args.ended c.hand_on.result c.args.machine.now.values.store.stack c.hand_on.ensures c.requires

pub returns-in-None-clause-calm : goal.returns-in-None-clause-calm
returns-in-None-clause-calm g c = handed_caused c.args.ended c.hand_on.result 0 c.hand_on.ensures
