use Rattle.std.proofs.Common.{rules, arith, ap, sym, ◌∙◌, ◌-◌}
use Rattle.tclv_model.specs.declared.outcomes.Code.TheVariants as code
use Rattle.tclv_engine.specs.declared.endings.Carried.TheVariants.{Plain}
use Rattle.tclv_engine.specs.declared.endings.Ended.TheVariants as ended
use Rattle.tclv_engine.specs.State.{state_of}
use Rattle.tclv_engine.specs.Answers.{last_of}
use Rattle.tclv_engine.proofs.Binds.{runs_as}
use Rattle.tclv_control.specs.declared.behind.Behind.{Behind}
use Rattle.tclv_control.specs.Levels.{level_of, lowered}
use Rattle.tclv_control.proofs.HandingLemmas.{handed_runs, handed_leaves, handed_caused}
use Rattle.tclv_control.proofs.LevelLemmas.{returned-zero, returned-one, returned-more}
use Rattle.tclv_control.proofs.levels.returned.Goals as goal

pub returns-then-level-eq0-clause-answer : goal.returns-then-level-eq0-clause-answer
returns-then-level-eq0-clause-answer g c here w told =
    let old = c.args.machine.now in
    runs_as (returned-zero (last_of old.values.store.stack) c.args.options.now (state_of old w) (level_of c.args.options.now) (search rules))
    (handed_runs Behind (ended.Ok Plain) c.hand_on.result old w here told c.hand_on.ensures)

pub returns-then-level-eq0-clause-stack : goal.returns-then-level-eq0-clause-stack
returns-then-level-eq0-clause-stack g c = handed_leaves (ended.Ok Plain) c.hand_on.result c.args.machine.now.values.store.stack c.hand_on.ensures c.requires

pub returns-then-level-eq0-clause-calm : goal.returns-then-level-eq0-clause-calm
returns-then-level-eq0-clause-calm g c = handed_caused (ended.Ok Plain) c.hand_on.result 0 c.hand_on.ensures

pub returns-then-level-eq1-clause-answer : goal.returns-then-level-eq1-clause-answer
returns-then-level-eq1-clause-answer g c here w told =
    let old = c.args.machine.now in
    let text = last_of old.values.store.stack in
    runs_as
    (ap (λ k. lowered 0 k text c.args.options.now (state_of old w)) c.stored_code.ensures
    ∙ returned-one text c.args.options.now (state_of old w) (level_of c.args.options.now) (search rules))
    (c.lower.ensures.answer here w told)

pub returns-clause-answer : goal.returns-clause-answer
returns-clause-answer g c here w told =
    let old = c.args.machine.now in
    let text = last_of old.values.store.stack in
    runs_as
    (ap (λ n. lowered (n - 1) code.Return text c.args.options.now (state_of old w)) c.level_of-level.ensures
    ∙ returned-more text c.args.options.now (state_of old w) (level_of c.args.options.now) (search (rules, arith)))
    (c.lower-2.ensures.answer here w told)
