use Rattle.std.proofs.Common.{rules, refl, sym, ap, ◌∙◌, Some, None}
use Rattle.std.specs.Option.{option_map}
use Rattle.tclv_ctl.specs.Handlers.{handler_in}
use Rattle.tclv_engine.specs.declared.endings.Carried.TheVariants.{Kept}
use Rattle.tclv_engine.specs.declared.endings.Ended.TheVariants as ended
use Rattle.tclv_engine.specs.declared.endings.Leaving.TheVariants.{Other}
use Rattle.tclv_engine.specs.State.{state_of}
use Rattle.tclv_engine.specs.Plans.{concluded, placed}
use Rattle.tclv_engine.proofs.Binds.{runs_as}
use Rattle.tclv_engine.proofs.Leaves.{memory_runs, from_same}
use Rattle.tclv_engine.proofs.StackLemmas.{last-pushed}
use Rattle.tclv_engine.proofs.WordLemmas.{values_same}
use Rattle.tclv_control.specs.TryRows.{at_last, handled, outcome}
use Rattle.tclv_control.proofs.try_plans.plan_handled.Goals as goal

pub returns-in-Some-clause-answer : goal.returns-in-Some-clause-answer
returns-in-Some-clause-answer g c here w told =
    let stack = c.args.machine.now.values.store.stack in
    runs_as (ap (λ f. handled (option_map (handler_in stack) f) c.args.finally (outcome c.args.code (placed stack c.args.text) c.args.options) (state_of c.args.machine.now w)) (sym c.in-Some.is))
    (c.plan_handler.ensures.answer here w told)

pub returns-in_err-push_copy-in-None-clause-answer : goal.returns-in_err-push_copy-in-None-clause-answer
returns-in_err-push_copy-in-None-clause-answer g c here w told = memory_runs (search rules) told refl

pub returns-in_ok-push_copy-in-None-clause-answer : goal.returns-in_ok-push_copy-in-None-clause-answer
returns-in_ok-push_copy-in-None-clause-answer g c here w told =
    let stack = c.args.machine.now.values.store.stack in
    let mid = record c.args.machine.now { values = c.push_copy.new.self } in
    let same = values_same c.args.machine.now c.push_copy.new.self c.in_ok-push_copy-in-None.ensures.same in
    runs_as (ap (λ f. handled (option_map (handler_in stack) f) c.args.finally (outcome c.args.code (placed stack c.args.text) c.args.options) (state_of c.args.machine.now w)) (sym c.in-None.is))
    (from_same c.args.machine.now mid (at_last c.args.finally (outcome c.args.code (placed stack c.args.text) c.args.options)) same
    (runs_as (ap (λ t. at_last c.args.finally (outcome c.args.code t c.args.options) (state_of mid w)) (last-pushed stack c.push_copy.new.self.store.stack _ c.in_ok-push_copy-in-None.ensures.pushed))
    (c.finish_handler.ensures.answer here w told)))
