use Rattle.std.proofs.Common.{rules, arith, ap, subst, ◌∙◌, List, length}
use Rattle.tclv_value.specs.Stacks.{under}
use Rattle.tclv_engine.specs.declared.endings.Carried.TheVariants.{Kept}
use Rattle.tclv_engine.specs.declared.endings.Ended.TheVariants as ended
use Rattle.tclv_engine.specs.declared.endings.Leaving.TheVariants.{Other}
use Rattle.tclv_engine.specs.State.{Text, state_of}
use Rattle.tclv_engine.specs.Answers.{last_of, Leaves}
use Rattle.tclv_engine.specs.Plans.{PlanOver}
use Rattle.tclv_engine.proofs.Binds.{runs_as}
use Rattle.tclv_engine.proofs.Leaves.{memory_runs}
use Rattle.tclv_engine.proofs.WordLemmas.{after_same}
use Rattle.tclv_control.specs.declared.behind.Behind.{Behind}
use Rattle.tclv_control.specs.HandingOn.{hand_on}
use Rattle.tclv_control.specs.Levels.{lowered}
use Rattle.tclv_control.proofs.HandingLemmas.{handed_runs, handed_leaves, handed_caused}
use Rattle.tclv_control.proofs.levels.lower.Goals as goal

pub returns-in_err-made-clause-answer : goal.returns-in_err-made-clause-answer
returns-in_err-made-clause-answer g c here w told = memory_runs (search rules) told c.in_err-made.ensures.same.events

pub returns-clause-answer : goal.returns-clause-answer
returns-clause-answer g c here w told =
    let mid = c.with_level.new.machine in
    let text = last_of c.args.machine.now.values.store.stack in
    after_same (lowered c.args.level c.args.code text c.args.options.now) c.args.machine.now mid
    (runs_as
    (ap (λ s. hand_on c.args.code (last_of s) c.in_ok-made.made (state_of mid w)) c.in_ok-made.ensures.stack
    ∙ ap (λ os. hand_on c.args.code text os (state_of mid w)) c.in_ok-made.ensures.options)
    (handed_runs Behind (ended.Left (Other c.args.code (Kept c.in_ok-made.made))) c.hand_on.result mid w here told c.hand_on.ensures))
    c.in_ok-made.ensures.same

pub returns-clause-calm : goal.returns-clause-calm
returns-clause-calm g c = handed_caused (ended.Left (Other c.args.code (Kept c.in_ok-made.made))) c.hand_on.result 0 c.hand_on.ensures

pub returns-clause-stack : goal.returns-clause-stack
returns-clause-stack g c =
    let mid = c.with_level.new.machine.values.store.stack in
    let kept = c.in_ok-made.ensures.stack in
    let P : List Text → Type 0 = λ s. Leaves (PlanOver (under 1 s)) (under 1 s) c.hand_on.result mid in
    subst P kept (handed_leaves (ended.Left (Other c.args.code (Kept c.in_ok-made.made))) c.hand_on.result mid c.hand_on.ensures (omega (arith, c.requires, ap length kept)))
