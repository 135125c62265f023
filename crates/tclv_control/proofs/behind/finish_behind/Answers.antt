use Rattle.std.proofs.Common.{ap, sym}
use Rattle.tclv_engine.specs.State.{state_of}
use Rattle.tclv_engine.specs.Answers.{last_of}
use Rattle.tclv_engine.specs.Plans.{concluded}
use Rattle.tclv_engine.proofs.Binds.{runs_as}
use Rattle.tclv_control.specs.declared.behind.Behind.{Behind}
use Rattle.tclv_control.specs.Finishing.{finish}
use Rattle.tclv_control.proofs.HandingLemmas.{handed_runs, handed_leaves, handed_caused}
use Rattle.tclv_control.proofs.behind.finish_behind.Goals as goal

pub returns-in-HandOn-clause-answer : goal.returns-in-HandOn-clause-answer
returns-in-HandOn-clause-answer g c here w told =
    runs_as (ap (λ b. finish b (concluded c.args.ended (last_of c.args.machine.now.values.store.stack)) (state_of c.args.machine.now w)) (sym c.in-HandOn.is))
    (handed_runs Behind c.args.ended c.hand_on.result c.args.machine.now w here told c.hand_on.ensures)

pub returns-in-HandOn-clause-stack : goal.returns-in-HandOn-clause-stack
returns-in-HandOn-clause-stack g c = handed_leaves c.args.ended c.hand_on.result c.args.machine.now.values.store.stack c.hand_on.ensures c.requires

pub returns-in-HandOn-clause-calm : goal.returns-in-HandOn-clause-calm
returns-in-HandOn-clause-calm g c = handed_caused c.args.ended c.hand_on.result 0 c.hand_on.ensures

pub returns-in-Catch-clause-answer : goal.returns-in-Catch-clause-answer
returns-in-Catch-clause-answer g c here w told =
    runs_as (ap (λ b. finish b (concluded c.args.ended (last_of c.args.machine.now.values.store.stack)) (state_of c.args.machine.now w)) (sym c.in-Catch.is))
    (c.finish_catch.ensures.answer here w told)

pub returns-in-Body-clause-answer : goal.returns-in-Body-clause-answer
returns-in-Body-clause-answer g c here w told =
    runs_as (ap (λ b. finish b (concluded c.args.ended (last_of c.args.machine.now.values.store.stack)) (state_of c.args.machine.now w)) (sym c.in-Body.is))
    (c.finish_body.ensures.answer here w told)

pub returns-in-Handler-clause-answer : goal.returns-in-Handler-clause-answer
returns-in-Handler-clause-answer g c here w told =
    runs_as (ap (λ b. finish b (concluded c.args.ended (last_of c.args.machine.now.values.store.stack)) (state_of c.args.machine.now w)) (sym c.in-Handler.is))
    (c.finish_handler.ensures.answer here w told)

pub returns-in-Finally-clause-answer : goal.returns-in-Finally-clause-answer
returns-in-Finally-clause-answer g c here w told =
    runs_as (ap (λ b. finish b (concluded c.args.ended (last_of c.args.machine.now.values.store.stack)) (state_of c.args.machine.now w)) (sym c.in-Finally.is))
    (c.finish_last.ensures.answer here w told)

pub returns-in-Procedure-clause-answer : goal.returns-in-Procedure-clause-answer
returns-in-Procedure-clause-answer g c here w told =
    runs_as (ap (λ b. finish b (concluded c.args.ended (last_of c.args.machine.now.values.store.stack)) (state_of c.args.machine.now w)) (sym c.in-Procedure.is))
    (c.outcome_of.ensures.answer here w told)
