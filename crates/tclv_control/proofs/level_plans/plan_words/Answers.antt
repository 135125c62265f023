use Rattle.std.proofs.Common.{rules, arith, ap, sym, subst, ◌∙◌, ◌≡◌, ◌+◌, ◌-◌, List, [], length, get_or, refl}
use Rattle.tclv_value.specs.Stacks.{top, under}
use Rattle.tclv_engine.specs.State.{Text, state_of}
use Rattle.tclv_engine.specs.Links.{level, outer_level}
use Rattle.tclv_engine.specs.Answers.{Leaves}
use Rattle.tclv_engine.specs.Plans.{PlanOver}
use Rattle.tclv_engine.proofs.Binds.{runs_as}
use Rattle.tclv_engine.proofs.Leaves.{memory_runs, from_same}
use Rattle.tclv_engine.proofs.StackLemmas.{keeps_all}
use Rattle.tclv_engine.proofs.WordLemmas.{after_same}
use Rattle.tclv_control.specs.LevelRows.{run_at, wanted_uplevel}
use Rattle.tclv_control.proofs.PlanLemmas.{keeps_under, plan_on}
use Rattle.tclv_control.proofs.UplevelLemmas.{uplevel_level, uplevel_other}
use Rattle.tclv_control.proofs.level_plans.plan_words.Goals as goal

pub returns-in_err-names_level-clause-answer : goal.returns-in_err-names_level-clause-answer
returns-in_err-names_level-clause-answer g c here w told = memory_runs (search rules) told c.in_err-names_level.ensures.same.events

pub returns-then-branch-clause-answer : goal.returns-then-branch-clause-answer
returns-then-branch-clause-answer g c here w told =
    let old = c.args.machine.now in
    let stack = old.values.store.stack in
    let mid = c.names_level.new.machine in
    let same : c.args.n - 2 + 1 ≡ c.args.n - 1 = omega (arith, c.requires.some) in
    after_same (wanted_uplevel c.args.hand_on (top c.args.n stack)) old mid
    (runs_as
    (ap (λ s. run_at c.args.hand_on (top (c.args.n - 2) s) (level (get_or s (length s - (c.args.n - 2 + 1)) []) (state_of mid w))) c.in_ok-names_level.ensures.stack
    ∙ ap (λ k. run_at c.args.hand_on (top (c.args.n - 2) stack) (level (get_or stack (length stack - k) []) (state_of mid w))) same
    ∙ uplevel_level c.args.hand_on stack c.args.n (state_of mid w) c.requires.words c.requires.some (sym c.in_ok-names_level.ensures.says ∙ c.if-branch.true))
    (c.run_inside.ensures.answer here w told))
    c.in_ok-names_level.ensures.same

pub returns-clause-answer : goal.returns-clause-answer
returns-clause-answer g c here w told =
    let old = c.args.machine.now in
    let stack = old.values.store.stack in
    let mid = c.names_level.new.machine in
    after_same (wanted_uplevel c.args.hand_on (top c.args.n stack)) old mid
    (runs_as
    (ap (λ s. run_at c.args.hand_on (top (c.args.n - 1) s) (outer_level (state_of mid w))) c.in_ok-names_level.ensures.stack
    ∙ uplevel_other c.args.hand_on stack c.args.n (state_of mid w) c.requires.words c.requires.some (sym c.in_ok-names_level.ensures.says ∙ c.if-branch.false))
    (c.run_outside.ensures.answer here w told))
    c.in_ok-names_level.ensures.same

pub returns-then-branch-clause-stack : goal.returns-then-branch-clause-stack
returns-then-branch-clause-stack g c =
    let stack = c.args.machine.now.values.store.stack in
    let now = c.run_inside.new.machine.values.store.stack in
    let m = c.args.n - 2 in
    let P : List Text → Type 0 = λ s. Leaves (PlanOver (under m s)) (under m s) c.run_inside.result now in
    plan_on (under c.args.n stack) (under m stack) c.run_inside.result now (keeps_under m c.args.n stack (under m stack) (omega arith) (keeps_all (under m stack))) (subst P c.in_ok-names_level.ensures.stack c.run_inside.ensures.stack)

pub returns-clause-stack : goal.returns-clause-stack
returns-clause-stack g c =
    let stack = c.args.machine.now.values.store.stack in
    let now = c.run_outside.new.machine.values.store.stack in
    let m = c.args.n - 1 in
    let P : List Text → Type 0 = λ s. Leaves (PlanOver (under m s)) (under m s) c.run_outside.result now in
    plan_on (under c.args.n stack) (under m stack) c.run_outside.result now (keeps_under m c.args.n stack (under m stack) (omega arith) (keeps_all (under m stack))) (subst P c.in_ok-names_level.ensures.stack c.run_outside.ensures.stack)
