use Rattle.std.proofs.Common.{rules, refl, ◌∙◌}
use Rattle.tclv_engine.specs.State.{state_of}
use Rattle.tclv_engine.specs.Plans.{concluded, placed}
use Rattle.tclv_engine.proofs.Binds.{runs_as}
use Rattle.tclv_engine.proofs.Leaves.{memory_runs, from_same}
use Rattle.tclv_engine.proofs.WordLemmas.{same_then}
use Rattle.tclv_control.specs.TrySteps.{planned}
use Rattle.tclv_control.proofs.TryLemmas.{said_is}
use Rattle.tclv_control.proofs.try_plans.plan_said.Goals as goal

pub returns-in_err-options-clause-answer : goal.returns-in_err-options-clause-answer
returns-in_err-options-clause-answer g c here w told = memory_runs (search rules) told refl

pub returns-in_err-found-clause-answer : goal.returns-in_err-found-clause-answer
returns-in_err-found-clause-answer g c here w told = memory_runs (search rules) told c.in_err-found.ensures.same.events

pub returns-in_err-finally-clause-answer : goal.returns-in_err-finally-clause-answer
returns-in_err-finally-clause-answer g c here w told =
    let same = same_then c.args.machine.now c.chosen.new.machine c.text_or_none.new.machine c.in_ok-found.ensures.same c.in_err-finally.ensures.same in
    memory_runs (search rules) told same.events

pub returns-clause-answer : goal.returns-clause-answer
returns-clause-answer g c here w told =
    let old = c.args.machine.now in
    let one = c.chosen.new.machine in
    let two = c.text_or_none.new.machine in
    let s0 = old.values.store.stack in
    let same = same_then old one two c.in_ok-found.ensures.same c.in_ok-finally.ensures.same in
    from_same old two (planned s0 c.args.plan.now (concluded c.args.ended (placed s0 c.args.text))) same
    (runs_as
    (said_is s0 one.values.store.stack two.values.store.stack c.args.plan.now c.in_ok-found.found c.in_ok-finally.finally c.code_ended-code.result c.in_ok-options.options c.args.ended c.args.text (state_of two w)
    c.in_ok-found.ensures.stack (c.in_ok-finally.ensures.stack ∙ c.in_ok-found.ensures.stack) c.code_ended-code.ensures c.in_ok-options.ensures c.in_ok-found.ensures.chosen c.in_ok-finally.ensures.text)
    (c.plan_handled.ensures.answer here w told))
