use Rattle.std.proofs.Common.{rules, refl, ap, sym, ◌∙◌, ◌≡◌}
use Rattle.tclv_model.specs.declared.outcomes.Code.TheVariants as code
use Rattle.tclv_model.specs.declared.messages.MessageId.TheVariants as message
use Rattle.tclv_model.specs.declared.error_codes.ErrorCode.TheVariants.{NoCode}
use Rattle.tclv_engine.specs.declared.endings.Ended.TheVariants as ended
use Rattle.tclv_engine.specs.declared.endings.Leaving.TheVariants.{Error, Other}
use Rattle.tclv_engine.specs.State.{state_of}
use Rattle.tclv_engine.specs.Answers.{last_of}
use Rattle.tclv_engine.specs.Plans.{PlanOver, concluded}
use Rattle.tclv_engine.specs.Results.{carried}
use Rattle.tclv_value.specs.Stacks.{under}
use Rattle.tclv_engine.proofs.Binds.{runs_as}
use Rattle.tclv_engine.proofs.Leaves.{raise_bare}
use Rattle.tclv_control.specs.declared.behind.Behind.{Behind}
use Rattle.tclv_control.specs.Levels.{leveled, outcome_of}
use Rattle.tclv_control.proofs.HandingLemmas.{handed_runs, handed_leaves, handed_caused}
use Rattle.tclv_control.proofs.LevelLemmas.{raised_below}
use Rattle.tclv_control.proofs.levels.outcome_of.Goals as goal

pub returns-in-Ok-clause-answer : goal.returns-in-Ok-clause-answer
returns-in-Ok-clause-answer g c here w told =
    let old = c.args.machine.now in
    runs_as (ap (λ e. outcome_of (concluded e (last_of old.values.store.stack)) (state_of old w)) (sym c.in-Ok.is))
    (handed_runs Behind (ended.Ok c.in-Ok.kept) c.hand_on.result old w here told c.hand_on.ensures)

pub returns-in-Ok-clause-stack : goal.returns-in-Ok-clause-stack
returns-in-Ok-clause-stack g c = handed_leaves (ended.Ok c.in-Ok.kept) c.hand_on.result c.args.machine.now.values.store.stack c.hand_on.ensures c.requires

pub returns-in-Ok-clause-calm : goal.returns-in-Ok-clause-calm
returns-in-Ok-clause-calm g c = handed_caused (ended.Ok c.in-Ok.kept) c.hand_on.result 0 c.hand_on.ensures

pub returns-in-Left-Error-clause-answer : goal.returns-in-Left-Error-clause-answer
returns-in-Left-Error-clause-answer g c here w told =
    let old = c.args.machine.now in
    let is : ended.Left (Error c.in-Left-Error.errorcode) ≡ c.args.ended = search rules in
    runs_as (ap (λ e. outcome_of (concluded e (last_of old.values.store.stack)) (state_of old w)) is)
    (handed_runs Behind (ended.Left (Error c.in-Left-Error.errorcode)) c.hand_on-in-Left-Error.result old w here told c.hand_on-in-Left-Error.ensures)

pub returns-in-Left-Error-clause-stack : goal.returns-in-Left-Error-clause-stack
returns-in-Left-Error-clause-stack g c = handed_leaves (ended.Left (Error c.in-Left-Error.errorcode)) c.hand_on-in-Left-Error.result c.args.machine.now.values.store.stack c.hand_on-in-Left-Error.ensures c.requires

pub returns-in-Left-Error-clause-calm : goal.returns-in-Left-Error-clause-calm
returns-in-Left-Error-clause-calm g c = handed_caused (ended.Left (Error c.in-Left-Error.errorcode)) c.hand_on-in-Left-Error.result 0 c.hand_on-in-Left-Error.ensures

pub returns-in-Left-Other-clause-answer : goal.returns-in-Left-Other-clause-answer
returns-in-Left-Other-clause-answer g c here w told =
    let old = c.args.machine.now in
    let is : ended.Left (Other c.in-Left-Other.code c.in-Left-Other.kept) ≡ c.args.ended = search rules in
    runs_as (ap (λ e. outcome_of (concluded e (last_of old.values.store.stack)) (state_of old w)) is)
    (c.outcome_of_code.ensures.answer here w told)
