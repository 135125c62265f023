use Rattle.std.proofs.Common.{rules, refl, ap}
use Rattle.tclv_value.specs.Stacks.{under}
use Rattle.tclv_engine.specs.State.{state_of}
use Rattle.tclv_engine.specs.Answers.{last_of}
use Rattle.tclv_engine.specs.Plans.{PlanOver}
use Rattle.tclv_engine.proofs.Binds.{runs_as, bind_ok, then_stop}
use Rattle.tclv_engine.proofs.StackLemmas.{keeps_on}
use Rattle.tclv_control.proofs.EachLemmas.{keeps_lowest}
use Rattle.tclv_control.proofs.PlanLemmas.{plan_on}
use Rattle.tclv_control.proofs.CatchLemmas.{error_over, caught_is}
use Rattle.tclv_control.proofs.catch_plans.finish_catch.Goals as goal

pub returns-in_err-note-clause-answer : goal.returns-in_err-note-clause-answer
returns-in_err-note-clause-answer g c here w told =
    runs_as (caught_is c.args.name c.args.options c.args.ended (last_of c.args.machine.now.values.store.stack) (state_of c.args.machine.now w))
    (then_stop _ (search rules) (c.in_err-note.ensures.answer here w told))

pub returns-in_err-note-clause-stack : goal.returns-in_err-note-clause-stack
returns-in_err-note-clause-stack g c =
    let stack = c.args.machine.now.values.store.stack in
    error_over (PlanOver (under 1 stack)) (Unit {0}) (under 1 stack) stack _ _ _ (keeps_lowest stack stack 1 refl) (search rules) c.in_err-note.ensures.stack

pub returns-clause-answer : goal.returns-clause-answer
returns-clause-answer g c here w told =
    runs_as (caught_is c.args.name c.args.options c.args.ended (last_of c.args.machine.now.values.store.stack) (state_of c.args.machine.now w))
    (bind_ok _ (c.in_ok-note.ensures.answer here w told) (λ t v e shown. c.finish_options.ensures.answer here v e))

pub returns-clause-stack : goal.returns-clause-stack
returns-clause-stack g c =
    let stack = c.args.machine.now.values.store.stack in
    let mid = c.note.new.machine.values.store.stack in
    plan_on (under 1 stack) mid c.finish_options.result c.finish_options.new.machine.values.store.stack (keeps_on (under 1 stack) stack mid (keeps_lowest stack stack 1 refl) c.in_ok-note.ensures.stack) c.finish_options.ensures.stack
