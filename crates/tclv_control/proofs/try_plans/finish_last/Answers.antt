use Rattle.std.proofs.Common.{rules, arith, refl, sym, ap, subst, ◌∙◌, ◌++◌, ◌∷◌, ◌≡◌, ◌<◌, [], List, length, length-append}
use Rattle.std.specs.Str.{chars}
use Rattle.tclv_value.specs.Stacks.{under}
use Rattle.tclv_engine.specs.declared.endings.Carried.TheVariants.{Kept}
use Rattle.tclv_engine.specs.declared.endings.Ended.TheVariants as ended
use Rattle.tclv_engine.specs.declared.endings.Leaving.TheVariants.{Other}
use Rattle.tclv_engine.specs.State.{Text, state_of}
use Rattle.tclv_engine.specs.Answers.{last_of, Leaves}
use Rattle.tclv_engine.specs.Plans.{PlanOver, concluded}
use Rattle.tclv_engine.proofs.Binds.{runs_as}
use Rattle.tclv_engine.proofs.Leaves.{memory_runs, from_same}
use Rattle.tclv_engine.proofs.StackLemmas.{last-pushed}
use Rattle.tclv_engine.proofs.WordLemmas.{values_same}
use Rattle.tclv_control.specs.declared.behind.Behind.{Behind}
use Rattle.tclv_control.specs.HandingOn.{hand_on}
use Rattle.tclv_control.proofs.EachLemmas.{keeps_lowest}
use Rattle.tclv_control.proofs.PlanLemmas.{plan_on}
use Rattle.tclv_control.proofs.HandingLemmas.{handed_runs, handed_leaves, handed_caused}
use Rattle.tclv_control.proofs.TryLemmas.{ended_parts, unless_ok, unless_other, popped_over}
use Rattle.tclv_control.proofs.try_plans.finish_last.Goals as goal

pub returns-in_err-push_text-in-Ok-clause-answer : goal.returns-in_err-push_text-in-Ok-clause-answer
returns-in_err-push_text-in-Ok-clause-answer g c here w told = memory_runs (search rules) told refl

pub returns-in-Ok-clause-answer : goal.returns-in-Ok-clause-answer
returns-in-Ok-clause-answer g c here w told =
    let old = c.args.machine.now.values.store.stack in
    let mid = record c.args.machine.now { values = c.push_text.new.self } in
    let e = concluded c.args.ended (last_of old) in
    let is = sym (ap (λ x. x.code) (ended_parts c.args.ended (last_of old))) ∙ sym c.code_ended.ensures ∙ c.in-Ok.is in
    let ends = ended.Left (Other c.args.code (Kept c.args.options)) in
    let same = values_same c.args.machine.now c.push_text.new.self c.in_ok-push_text-in-Ok.ensures.same in
    runs_as (unless_ok e.code c.args.code c.args.text c.args.options e (state_of c.args.machine.now w) is)
    (from_same c.args.machine.now mid (hand_on c.args.code c.args.text c.args.options) same
    (runs_as (ap (λ t. hand_on c.args.code t c.args.options (state_of mid w)) (last-pushed old c.push_text.new.self.store.stack _ c.in_ok-push_text-in-Ok.ensures.pushed ∙ c.bytes.ensures.text))
    (handed_runs Behind ends c.hand_on.result mid w here told c.hand_on.ensures)))

pub returns-in-Ok-clause-stack : goal.returns-in-Ok-clause-stack
returns-in-Ok-clause-stack g c =
    let old = c.args.machine.now.values.store.stack in
    let mid = c.push_text.new.self.store.stack in
    let pushed = c.in_ok-push_text-in-Ok.ensures.pushed in
    let ends = ended.Left (Other c.args.code (Kept c.args.options)) in
    let some : 0 < length mid = omega (arith, ap length pushed, length-append old (chars c.bytes.result.now ∷ [])) in
    plan_on (under 1 old) (under 1 mid) c.hand_on.result mid (popped_over old mid _ pushed) (handed_leaves ends c.hand_on.result mid c.hand_on.ensures some)

pub returns-in-Ok-clause-calm : goal.returns-in-Ok-clause-calm
returns-in-Ok-clause-calm g c = handed_caused (ended.Left (Other c.args.code (Kept c.args.options))) c.hand_on.result 0 c.hand_on.ensures

pub returns-clause-answer : goal.returns-clause-answer
returns-clause-answer g c here w told =
    let old = c.args.machine.now.values.store.stack in
    let e = concluded c.args.ended (last_of old) in
    let parts = ap (λ x. x.code) (ended_parts c.args.ended (last_of old)) in
    runs_as (unless_other e.code c.args.code c.args.text c.args.options e (state_of c.args.machine.now w) (λ h. search (rules, c.code_ended.ensures ∙ parts ∙ h, c.in_default)))
    (handed_runs Behind c.args.ended c.hand_on-in_default.result c.args.machine.now w here told c.hand_on-in_default.ensures)

pub returns-clause-stack : goal.returns-clause-stack
returns-clause-stack g c = handed_leaves c.args.ended c.hand_on-in_default.result c.args.machine.now.values.store.stack c.hand_on-in_default.ensures c.requires

pub returns-clause-calm : goal.returns-clause-calm
returns-clause-calm g c = handed_caused c.args.ended c.hand_on-in_default.result 0 c.hand_on-in_default.ensures
