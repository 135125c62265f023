use Rattle.std.proofs.Common.{rules, arith, sym, ap, ◌∙◌, ◌≡◌, Ok}
use Rattle.tclv_value.specs.Stacks.{under}
use Rattle.tclv_ctl.specs.Handlers.{handler_in}
use Rattle.tclv_engine.specs.State.{state_of}
use Rattle.tclv_engine.specs.Answers.{Keeps, last_of}
use Rattle.tclv_engine.specs.Plans.{placed}
use Rattle.tclv_engine.proofs.Binds.{runs_as, answers_as, bind_ok, then_stop}
use Rattle.tclv_control.specs.TryRows.{started_by}
use Rattle.tclv_control.specs.TrySteps.{left_of}
use Rattle.tclv_control.proofs.PlanLemmas.{plan_on}
use Rattle.tclv_control.proofs.TryLemmas.{settled_runs, settled_keeps, left_shown, kept_text, under_keeps}
use Rattle.tclv_control.proofs.try_plans.plan_handler.Goals as goal

pub returns-in_err-left-clause-answer : goal.returns-in_err-left-clause-answer
returns-in_err-left-clause-answer g c here w told =
    then_stop _ (search rules) (answers_as (sym c.in_err-left.was) (settled_runs c.note_names.result c.settled.result c.settled.ensures (c.note_names.ensures.answer here w told)))

pub returns-clause-answer : goal.returns-clause-answer
returns-clause-answer g c here w told =
    let old = c.args.machine.now.values.store.stack in
    let mid = c.note_names.new.machine.values.store.stack in
    let keeps : Keeps old mid = settled_keeps old c.note_names.result mid c.in_ok-left.left (sym c.settled.ensures ∙ c.in_ok-left.was) c.note_names.ensures.stack in
    bind_ok (started_by (handler_in old c.args.handler).script c.args.finally)
    (answers_as (sym c.in_ok-left.was) (settled_runs c.note_names.result c.settled.result c.settled.ensures (c.note_names.ensures.answer here w told)))
    (λ e v told2 shown. runs_as
    (ap (λ t. started_by t c.args.finally (left_of c.in_ok-left.left (last_of mid)) (state_of c.note_names.new.machine v)) (kept_text old mid c.args.handler.body keeps c.requires.handler.body)
    ∙ ap (λ l. started_by (placed old c.args.handler.body) c.args.finally l (state_of c.note_names.new.machine v)) (left_shown e c.in_ok-left.left mid shown))
    (c.plan_started.ensures.answer here v told2))

pub returns-clause-stack : goal.returns-clause-stack
returns-clause-stack g c =
    let old = c.args.machine.now.values.store.stack in
    let mid = c.note_names.new.machine.values.store.stack in
    let keeps : Keeps old mid = settled_keeps old c.note_names.result mid c.in_ok-left.left (sym c.settled.ensures ∙ c.in_ok-left.was) c.note_names.ensures.stack in
    plan_on (under 1 old) (under 1 mid) c.plan_started.result c.plan_started.new.machine.values.store.stack (under_keeps old mid keeps) c.plan_started.ensures.stack
