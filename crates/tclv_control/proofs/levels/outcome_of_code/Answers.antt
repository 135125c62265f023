use Rattle.std.proofs.Common.{rules, arith, refl, ap, sym, ◌∙◌, ◌≡◌, to_z, of_z, w32}
use Rattle.std.proofs.lemmas.Int.{ints}
use Rattle.tclv_model.specs.declared.outcomes.Code.TheVariants as code
use Rattle.tclv_model.specs.declared.messages.MessageId.TheVariants as message
use Rattle.tclv_model.specs.declared.error_codes.ErrorCode.TheVariants.{NoCode}
use Rattle.tclv_engine.specs.declared.endings.Ended.TheVariants as ended
use Rattle.tclv_engine.specs.declared.endings.Leaving.TheVariants.{Error, Other}
use Rattle.tclv_engine.specs.State.{state_of}
use Rattle.tclv_engine.specs.Answers.{last_of}
use Rattle.tclv_engine.specs.Plans.{PlanOver, concluded}
use Rattle.tclv_engine.specs.Results.{carried}
use Rattle.tclv_value.specs.Stacks.{under}
use Rattle.tclv_engine.proofs.Binds.{runs_as}
use Rattle.tclv_engine.proofs.Leaves.{raise_bare}
use Rattle.tclv_control.specs.declared.behind.Behind.{Behind}
use Rattle.tclv_control.specs.Levels.{leveled, outcome_of}
use Rattle.tclv_control.proofs.HandingLemmas.{handed_runs, handed_leaves, handed_caused}
use Rattle.tclv_control.proofs.LevelLemmas.{raised_below}
use Rattle.tclv_control.proofs.levels.outcome_of_code.Goals as goal

pub returns-in-Ok-clause-answer : goal.returns-in-Ok-clause-answer
returns-in-Ok-clause-answer g c here w told =
    let old = c.args.machine.now in
    runs_as (ap (λ k. leveled k (last_of old.values.store.stack) (carried k c.args.kept) (state_of old w)) (sym c.in-Ok.is))
    (handed_runs Behind (ended.Ok c.args.kept) c.hand_on.result old w here told c.hand_on.ensures)

pub returns-in-Ok-clause-stack : goal.returns-in-Ok-clause-stack
returns-in-Ok-clause-stack g c = handed_leaves (ended.Ok c.args.kept) c.hand_on.result c.args.machine.now.values.store.stack c.hand_on.ensures c.requires

pub returns-in-Ok-clause-calm : goal.returns-in-Ok-clause-calm
returns-in-Ok-clause-calm g c = handed_caused (ended.Ok c.args.kept) c.hand_on.result 0 c.hand_on.ensures

pub returns-in-Error-clause-answer : goal.returns-in-Error-clause-answer
returns-in-Error-clause-answer g c here w told =
    let old = c.args.machine.now in
    runs_as (ap (λ k. leveled k (last_of old.values.store.stack) (carried k c.args.kept) (state_of old w)) (sym c.in-Error.is))
    (handed_runs Behind (ended.Left (Other code.Error c.args.kept)) c.hand_on-in-Error.result old w here told c.hand_on-in-Error.ensures)

pub returns-in-Error-clause-stack : goal.returns-in-Error-clause-stack
returns-in-Error-clause-stack g c = handed_leaves (ended.Left (Other code.Error c.args.kept)) c.hand_on-in-Error.result c.args.machine.now.values.store.stack c.hand_on-in-Error.ensures c.requires

pub returns-in-Error-clause-calm : goal.returns-in-Error-clause-calm
returns-in-Error-clause-calm g c = handed_caused (ended.Left (Other code.Error c.args.kept)) c.hand_on-in-Error.result 0 c.hand_on-in-Error.ensures

pub returns-in-Return-clause-answer : goal.returns-in-Return-clause-answer
returns-in-Return-clause-answer g c here w told =
    let old = c.args.machine.now in
    runs_as (ap (λ k. leveled k (last_of old.values.store.stack) (carried k c.args.kept) (state_of old w)) (sym c.in-Return.is))
    (c.return_kept.ensures.answer here w told)

pub returns-in-Break-clause-answer : goal.returns-in-Break-clause-answer
returns-in-Break-clause-answer g c here w told =
    let old = c.args.machine.now in
    runs_as (ap (λ k. leveled k (last_of old.values.store.stack) (carried k c.args.kept) (state_of old w)) (sym c.in-Break.is))
    (raise_bare old message.BreakOutsideLoop message.BreakOutsideLoop NoCode NoCode told c.raise.ensures.same refl refl c.raise.ensures.raises)

pub returns-in-Break-clause-stack : goal.returns-in-Break-clause-stack
returns-in-Break-clause-stack g c =
    let stack = c.args.machine.now.values.store.stack in
    raised_below (PlanOver {K = Behind} (under 1 stack)) stack c.raise.new.self.values.store.stack c.raise.result c.raise.ensures.stack

pub returns-in-Continue-clause-answer : goal.returns-in-Continue-clause-answer
returns-in-Continue-clause-answer g c here w told =
    let old = c.args.machine.now in
    runs_as (ap (λ k. leveled k (last_of old.values.store.stack) (carried k c.args.kept) (state_of old w)) (sym c.in-Continue.is))
    (raise_bare old message.ContinueOutsideLoop message.ContinueOutsideLoop NoCode NoCode told c.raise-in-Continue.ensures.same refl refl c.raise-in-Continue.ensures.raises)

pub returns-in-Continue-clause-stack : goal.returns-in-Continue-clause-stack
returns-in-Continue-clause-stack g c =
    let stack = c.args.machine.now.values.store.stack in
    raised_below (PlanOver {K = Behind} (under 1 stack)) stack c.raise-in-Continue.new.self.values.store.stack c.raise-in-Continue.result c.raise-in-Continue.ensures.stack

pub returns-in-Other-clause-answer : goal.returns-in-Other-clause-answer
returns-in-Other-clause-answer g c here w told =
    let old = c.args.machine.now in
    let n = to_z w32 (of_z w32 c.in-Other.n) in
    let same : n ≡ c.in-Other.n = omega (arith, ints) in
    runs_as (ap (λ k. leveled k (last_of old.values.store.stack) (carried k c.args.kept) (state_of old w)) (ap code.Other same ∙ sym c.in-Other.is))
    (handed_runs Behind (ended.Left (Other (code.Other n) c.args.kept)) c.hand_on-in-Other.result old w here told c.hand_on-in-Other.ensures)

pub returns-in-Other-clause-stack : goal.returns-in-Other-clause-stack
returns-in-Other-clause-stack g c =
    handed_leaves (ended.Left (Other (code.Other (to_z w32 (of_z w32 c.in-Other.n))) c.args.kept)) c.hand_on-in-Other.result c.args.machine.now.values.store.stack c.hand_on-in-Other.ensures c.requires

pub returns-in-Other-clause-calm : goal.returns-in-Other-clause-calm
returns-in-Other-clause-calm g c =
    handed_caused (ended.Left (Other (code.Other (to_z w32 (of_z w32 c.in-Other.n))) c.args.kept)) c.hand_on-in-Other.result 0 c.hand_on-in-Other.ensures
