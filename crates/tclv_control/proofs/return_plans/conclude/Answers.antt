use Rattle.std.proofs.Common.{rules, arith, ap, subst, ◌∙◌, List, length}
use Rattle.tclv_value.specs.Stacks.{under}
use Rattle.tclv_engine.specs.declared.endings.Carried.TheVariants.{Kept}
use Rattle.tclv_engine.specs.declared.endings.Ended.TheVariants as ended
use Rattle.tclv_engine.specs.declared.endings.Leaving.TheVariants.{Other}
use Rattle.tclv_engine.specs.State.{Text, state_of}
use Rattle.tclv_engine.specs.Answers.{last_of, Leaves}
use Rattle.tclv_engine.specs.Plans.{PlanOver}
use Rattle.tclv_engine.proofs.Binds.{runs_as}
use Rattle.tclv_engine.proofs.Leaves.{memory_runs}
use Rattle.tclv_engine.proofs.WordLemmas.{after_same}
use Rattle.tclv_control.specs.declared.behind.Behind.{Behind}
use Rattle.tclv_control.specs.HandingOn.{hand_on}
use Rattle.tclv_control.specs.ReturnRows.{coming}
use Rattle.tclv_control.specs.ReturnSteps.{asked_options, outcome_asked}
use Rattle.tclv_control.proofs.HandingLemmas.{handed_runs, handed_leaves, handed_caused}
use Rattle.tclv_control.proofs.return_plans.conclude.Goals as goal

pub returns-in_err-options-clause-answer : goal.returns-in_err-options-clause-answer
returns-in_err-options-clause-answer g c here w told = memory_runs (search rules) told c.in_err-options.ensures.same.events

pub returns-clause-answer : goal.returns-clause-answer
returns-clause-answer g c here w told =
    let mid = c.all_options.new.machine in
    let text = last_of c.args.machine.now.values.store.stack in
    let ends = ended.Left (Other c.coming.result (Kept c.in_ok-options.options)) in
    after_same (outcome_asked c.args.ret.now text) c.args.machine.now mid
    (runs_as
    (ap (λ k. hand_on k (last_of mid.values.store.stack) c.in_ok-options.options (state_of mid w)) c.coming.ensures
    ∙ ap (λ s. hand_on (coming c.args.ret.now.level c.args.ret.now.code) (last_of s) c.in_ok-options.options (state_of mid w)) c.in_ok-options.ensures.stack
    ∙ ap (λ os. hand_on (coming c.args.ret.now.level c.args.ret.now.code) text os (state_of mid w)) c.in_ok-options.ensures.options)
    (handed_runs Behind ends c.hand_on.result mid w here told c.hand_on.ensures))
    c.in_ok-options.ensures.same

pub returns-clause-calm : goal.returns-clause-calm
returns-clause-calm g c = handed_caused (ended.Left (Other c.coming.result (Kept c.in_ok-options.options))) c.hand_on.result 0 c.hand_on.ensures

pub returns-clause-stack : goal.returns-clause-stack
returns-clause-stack g c =
    let mid = c.all_options.new.machine.values.store.stack in
    let kept = c.in_ok-options.ensures.stack in
    let P : List Text → Type 0 = λ s. Leaves (PlanOver (under 1 s)) (under 1 s) c.hand_on.result mid in
    subst P kept (handed_leaves (ended.Left (Other c.coming.result (Kept c.in_ok-options.options))) c.hand_on.result mid c.hand_on.ensures (omega (arith, c.requires, ap length kept)))
