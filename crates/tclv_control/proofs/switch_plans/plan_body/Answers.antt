use Rattle.std.proofs.Common.{rules, sym, ap, ◌∙◌, []}
use Rattle.std.specs.Str.{chars}
use Rattle.std.proofs.lemmas.Str.{chars-nil}
use Rattle.tclv_ctl.specs.Switching.{chosen_by}
use Rattle.tclv_engine.specs.declared.endings.Carried.TheVariants.{Plain}
use Rattle.tclv_engine.specs.Results.{outcome}
use Rattle.tclv_engine.specs.Plans.{Finished}
use Rattle.tclv_engine.proofs.Handed.{push-memory}
use Rattle.tclv_engine.proofs.Leaves.{memory_runs, value_runs}
use Rattle.tclv_engine.proofs.StackLemmas.{last-pushed}
use Rattle.tclv_engine.proofs.WordLemmas.{same_then}
use Rattle.tclv_control.proofs.SwitchLemmas.{run_some, run_none}
use Rattle.tclv_control.proofs.switch_plans.plan_body.Goals as goal

pub returns-in_err-body-clause-answer : goal.returns-in_err-body-clause-answer
returns-in_err-body-clause-answer g c here w told = memory_runs (search rules) told c.in_err-body.ensures.same.events

pub returns-in_err-push_text-in-None-clause-answer : goal.returns-in_err-push_text-in-None-clause-answer
returns-in_err-push_text-in-None-clause-answer g c here w told =
    let none = push-memory (chars []) c.chosen_place.new.machine.values.store.stack _ c.push_text.new.self.values.store.stack c.in_err-push_text-in-None.ensures.stack in
    let same = same_then c.args.machine.now c.chosen_place.new.machine c.push_text.new.self c.in_ok-body.ensures.same c.in_err-push_text-in-None.ensures.same in
    memory_runs (search (rules, none)) told same.events

pub returns-in-Some-clause-answer : goal.returns-in-Some-clause-answer
returns-in-Some-clause-answer g c here w told =
    let stack = c.args.machine.now.values.store.stack in
    value_runs c.args.machine.now told c.in_ok-body.ensures.same
    (sym (run_some c.args.hand_on stack _ (chosen_by c.args.plan.now stack) c.in_ok-body.ensures.chosen c.chosen_place.new.machine.values.store.stack c.in-Some.body c.in-Some.is c.in_ok-body.ensures.stack))

pub returns-in_ok-push_text-in-None-clause-answer : goal.returns-in_ok-push_text-in-None-clause-answer
returns-in_ok-push_text-in-None-clause-answer g c here w told =
    let stack = c.args.machine.now.values.store.stack in
    let same = same_then c.args.machine.now c.chosen_place.new.machine c.push_text.new.self c.in_ok-body.ensures.same c.in_ok-push_text-in-None.ensures.same in
    let empty = last-pushed _ _ _ c.in_ok-push_text-in-None.ensures.stack ∙ chars-nil in
    value_runs c.args.machine.now told same
    (sym (ap (λ t. Finished (outcome Plain t)) empty ∙ run_none c.args.hand_on stack _ (chosen_by c.args.plan.now stack) c.in_ok-body.ensures.chosen c.in-None.is))
