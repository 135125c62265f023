use Rattle.std.proofs.Common.{◌≡◌, ◌++◌, ◌∷◌, rules, arith, ap, ◌∙◌, [], length, length-append, get_or, Err}
use Rattle.std.specs.Str.{chars}
use Rattle.tclv_engine.specs.State.{state_of}
use Rattle.tclv_engine.specs.Variables.{assign}
use Rattle.tclv_engine.proofs.Binds.{runs_as, answers_as}
use Rattle.tclv_engine.proofs.Leaves.{memory_runs, from_same, then_same}
use Rattle.tclv_engine.proofs.Handed.{push-memory}
use Rattle.tclv_engine.proofs.StackLemmas.{over_push, text_below}
use Rattle.tclv_engine.proofs.ListLemmas.{kept_grown}
use Rattle.tclv_engine.proofs.ForeachLemmas.{name_on_top}
use Rattle.tclv_engine.proofs.machine.Machine.assign_place.Goals as goal

pub returns-in_err-push_text-clause-answer : goal.returns-in_err-push_text-clause-answer
returns-in_err-push_text-clause-answer g c here w told =
    memory_runs (search rules ∙ ap Err (push-memory (chars c.args.name.now) c.args.self.now.values.store.stack c.in_err-push_text.field-0.0 c.push_text.new.self.values.store.stack c.in_err-push_text.ensures.stack)) told c.in_err-push_text.ensures.same.events

pub assign_copy-requires-clause-name : goal.assign_copy-requires-clause-name
assign_copy-requires-clause-name g c =
    omega (arith, c.height-height.ensures, ap length c.in_ok-push_text.ensures.stack, length-append c.args.self.now.values.store.stack (chars c.args.name.now ∷ []))

pub assign_copy-requires-clause-place : goal.assign_copy-requires-clause-place
assign_copy-requires-clause-place g c =
    omega (arith, c.requires.place, ap length c.in_ok-push_text.ensures.stack, length-append c.args.self.now.values.store.stack (chars c.args.name.now ∷ []))

pub returns-in_err-assign_copy-clause-answer : goal.returns-in_err-assign_copy-clause-answer
returns-in_err-assign_copy-clause-answer g c here w told =
    let old = c.args.self.now.values.store.stack in
    let mid = c.push_text.new.self.values.store.stack in
    let name = chars c.args.name.now in
    let value = get_or old c.args.from [] in
    let pushed : mid ≡ old ++ name ∷ [] = c.in_ok-push_text.ensures.stack in
    let st = state_of c.push_text.new.self w in
    answers_as (search rules)
    (from_same c.args.self.now c.push_text.new.self (assign name value) c.in_ok-push_text.ensures.same
    (runs_as
    (ap (λ t. assign t (get_or mid c.args.from []) st) (name_on_top old mid name c.height-height.result c.height-height.ensures pushed)
    ∙ ap (λ t. assign name t st) (text_below old mid c.args.from (over_push old mid name pushed) c.requires.place))
    (c.in_err-assign_copy.ensures.answer here w told)))

pub returns-in_err-assign_copy-clause-stack : goal.returns-in_err-assign_copy-clause-stack
returns-in_err-assign_copy-clause-stack g c =
    kept_grown _ c.in_err-assign_copy.field-0.0 (search rules) c.args.self.now.values.store.stack c.push_text.new.self.values.store.stack c.assign_copy.new.self.values.store.stack _ c.in_ok-push_text.ensures.stack c.in_err-assign_copy.ensures.stack

pub returns-clause-answer : goal.returns-clause-answer
returns-clause-answer g c here w told =
    let old = c.args.self.now.values.store.stack in
    let mid = c.push_text.new.self.values.store.stack in
    let name = chars c.args.name.now in
    let value = get_or old c.args.from [] in
    let pushed : mid ≡ old ++ name ∷ [] = c.in_ok-push_text.ensures.stack in
    let st = state_of c.push_text.new.self w in
    then_same
    (from_same c.args.self.now c.push_text.new.self (assign name value) c.in_ok-push_text.ensures.same
    (runs_as
    (ap (λ t. assign t (get_or mid c.args.from []) st) (name_on_top old mid name c.height-height.result c.height-height.ensures pushed)
    ∙ ap (λ t. assign name t st) (text_below old mid c.args.from (over_push old mid name pushed) c.requires.place))
    (c.in_ok-assign_copy.ensures.answer here w told)))
    (search rules) (λ a shown. tt)
