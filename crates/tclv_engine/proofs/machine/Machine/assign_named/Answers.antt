use Rattle.std.proofs.Common.{rules, arith, ap, ◌≡◌, ◌∙◌, ◌++◌, ◌∷◌, [], length, length-append, get_or, Err}
use Rattle.tclv_engine.specs.State.{state_of}
use Rattle.tclv_engine.specs.Variables.{assign}
use Rattle.tclv_engine.specs.ListAssignment.{listed}
use Rattle.tclv_engine.proofs.Binds.{runs_as, answers_as}
use Rattle.tclv_engine.proofs.Leaves.{memory_runs, from_same, then_same}
use Rattle.tclv_engine.proofs.Handed.{push-memory}
use Rattle.tclv_engine.proofs.StackLemmas.{over_push, text_below}
use Rattle.tclv_engine.proofs.ListLemmas.{kept_grown, list_stays}
use Rattle.tclv_engine.proofs.ForeachLemmas.{name_on_top}
use Rattle.tclv_engine.proofs.machine.Machine.assign_named.Goals as goal

pub returns-in_err-push_element_or_empty-clause-answer : goal.returns-in_err-push_element_or_empty-clause-answer
returns-in_err-push_element_or_empty-clause-answer g c here w told =
    let old = c.args.self.now.values.store.stack in
    memory_runs (search rules ∙ ap Err (push-memory (get_or (listed (get_or old c.args.group.now.names [])) c.args.name []) old c.in_err-push_element_or_empty.field-0.0 c.push_element_or_empty.new.self.values.store.stack c.in_err-push_element_or_empty.ensures.stack)) told c.in_err-push_element_or_empty.ensures.same.events

pub assign_element-requires-clause-name : goal.assign_element-requires-clause-name
assign_element-requires-clause-name g c =
    let old = c.args.self.now.values.store.stack in
    omega (arith, c.height-height.ensures, ap length c.in_ok-push_element_or_empty.ensures.stack, length-append old (get_or (listed (get_or old c.args.group.now.names [])) c.args.name [] ∷ []))

pub assign_element-requires-clause-place : goal.assign_element-requires-clause-place
assign_element-requires-clause-place g c =
    let old = c.args.self.now.values.store.stack in
    omega (arith, c.requires.values_in, ap length c.in_ok-push_element_or_empty.ensures.stack, length-append old (get_or (listed (get_or old c.args.group.now.names [])) c.args.name [] ∷ []))

pub assign_element-requires-clause-list : goal.assign_element-requires-clause-list
assign_element-requires-clause-list g c =
    let old = c.args.self.now.values.store.stack in
    let mid = c.push_element_or_empty.new.self.values.store.stack in
    list_stays (get_or old c.args.group.now.values []) _ (text_below old mid c.args.group.now.values (over_push old mid _ c.in_ok-push_element_or_empty.ensures.stack) c.requires.values_in) c.requires.values_list

pub returns-in_err-assign_element-clause-answer : goal.returns-in_err-assign_element-clause-answer
returns-in_err-assign_element-clause-answer g c here w told =
    let old = c.args.self.now.values.store.stack in
    let mid = c.push_element_or_empty.new.self.values.store.stack in
    let name = get_or (listed (get_or old c.args.group.now.names [])) c.args.name [] in
    let value = get_or (listed (get_or old c.args.group.now.values [])) c.args.value [] in
    let pushed : mid ≡ old ++ name ∷ [] = c.in_ok-push_element_or_empty.ensures.stack in
    let st = state_of c.push_element_or_empty.new.self w in
    answers_as (search rules)
    (from_same c.args.self.now c.push_element_or_empty.new.self (assign name value) c.in_ok-push_element_or_empty.ensures.same
    (runs_as
    (ap (λ t. assign t (get_or (listed (get_or mid c.args.group.now.values [])) c.args.value []) st) (name_on_top old mid name c.height-height.result c.height-height.ensures pushed)
    ∙ ap (λ t. assign name (get_or (listed t) c.args.value []) st) (text_below old mid c.args.group.now.values (over_push old mid name pushed) c.requires.values_in))
    (c.in_err-assign_element.ensures.answer here w told)))

pub returns-in_err-assign_element-clause-stack : goal.returns-in_err-assign_element-clause-stack
returns-in_err-assign_element-clause-stack g c =
    kept_grown _ c.in_err-assign_element.field-0.0 (search rules) c.args.self.now.values.store.stack c.push_element_or_empty.new.self.values.store.stack c.assign_element.new.self.values.store.stack _ c.in_ok-push_element_or_empty.ensures.stack c.in_err-assign_element.ensures.stack

pub returns-clause-answer : goal.returns-clause-answer
returns-clause-answer g c here w told =
    let old = c.args.self.now.values.store.stack in
    let mid = c.push_element_or_empty.new.self.values.store.stack in
    let name = get_or (listed (get_or old c.args.group.now.names [])) c.args.name [] in
    let value = get_or (listed (get_or old c.args.group.now.values [])) c.args.value [] in
    let pushed : mid ≡ old ++ name ∷ [] = c.in_ok-push_element_or_empty.ensures.stack in
    let st = state_of c.push_element_or_empty.new.self w in
    then_same
    (from_same c.args.self.now c.push_element_or_empty.new.self (assign name value) c.in_ok-push_element_or_empty.ensures.same
    (runs_as
    (ap (λ t. assign t (get_or (listed (get_or mid c.args.group.now.values [])) c.args.value []) st) (name_on_top old mid name c.height-height.result c.height-height.ensures pushed)
    ∙ ap (λ t. assign name (get_or (listed t) c.args.value []) st) (text_below old mid c.args.group.now.values (over_push old mid name pushed) c.requires.values_in))
    (c.in_ok-assign_element.ensures.answer here w told)))
    (search rules) (λ a shown. tt)
