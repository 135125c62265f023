use Rattle.std.proofs.Common.{rules, ap, ◌∙◌, [], get_or, Err}
use Rattle.tclv_engine.specs.State.{state_of}
use Rattle.tclv_engine.specs.Variables.{assign}
use Rattle.tclv_engine.specs.ListAssignment.{listed}
use Rattle.tclv_engine.specs.Answers.{last_of}
use Rattle.tclv_engine.proofs.Binds.{runs_as, answers_as}
use Rattle.tclv_engine.proofs.Leaves.{memory_runs, from_same, then_same}
use Rattle.tclv_engine.proofs.Handed.{push-memory}
use Rattle.tclv_engine.proofs.StackLemmas.{over_push, last-pushed, text_below}
use Rattle.tclv_engine.proofs.ListLemmas.{other_show, kept_grown}
use Rattle.tclv_engine.proofs.machine.Machine.assign_element.Goals as goal

pub returns-in_err-push_element_or_empty-clause-answer : goal.returns-in_err-push_element_or_empty-clause-answer
returns-in_err-push_element_or_empty-clause-answer g c here w told =
    memory_runs (search rules ∙ ap Err (push-memory (get_or (listed (get_or c.args.self.now.values.store.stack c.args.list [])) c.args.i []) c.args.self.now.values.store.stack c.in_err-push_element_or_empty.field-0.0 c.push_element_or_empty.new.self.values.store.stack c.in_err-push_element_or_empty.ensures.stack)) told c.in_err-push_element_or_empty.ensures.same.events

pub returns-in_err-assign_top-clause-answer : goal.returns-in_err-assign_top-clause-answer
returns-in_err-assign_top-clause-answer g c here w told =
    let old = c.args.self.now.values.store.stack in
    let mid = c.push_element_or_empty.new.self.values.store.stack in
    let value = get_or (listed (get_or c.args.self.now.values.store.stack c.args.list [])) c.args.i [] in
    let pushed = c.in_ok-push_element_or_empty.ensures.stack in
    let st = state_of c.push_element_or_empty.new.self w in
    answers_as (search rules)
    (from_same c.args.self.now c.push_element_or_empty.new.self (assign (get_or old c.args.name []) value) c.in_ok-push_element_or_empty.ensures.same
    (runs_as
    (ap (λ t. assign t (last_of mid) st) (text_below old mid c.args.name (over_push old mid value pushed) c.requires.name) ∙ ap (λ v. assign (get_or old c.args.name []) v st) (last-pushed old mid value pushed))
    (other_show _ (c.in_err-assign_top.ensures.answer here w told))))

pub returns-in_err-assign_top-clause-stack : goal.returns-in_err-assign_top-clause-stack
returns-in_err-assign_top-clause-stack g c =
    kept_grown _ c.in_err-assign_top.field-0.0 (search rules) c.args.self.now.values.store.stack c.push_element_or_empty.new.self.values.store.stack c.assign_top.new.self.values.store.stack _ c.in_ok-push_element_or_empty.ensures.stack c.in_err-assign_top.ensures.stack

pub returns-clause-answer : goal.returns-clause-answer
returns-clause-answer g c here w told =
    let old = c.args.self.now.values.store.stack in
    let mid = c.push_element_or_empty.new.self.values.store.stack in
    let value = get_or (listed (get_or c.args.self.now.values.store.stack c.args.list [])) c.args.i [] in
    let pushed = c.in_ok-push_element_or_empty.ensures.stack in
    let st = state_of c.push_element_or_empty.new.self w in
    then_same
    (from_same c.args.self.now c.push_element_or_empty.new.self (assign (get_or old c.args.name []) value) c.in_ok-push_element_or_empty.ensures.same
    (runs_as
    (ap (λ t. assign t (last_of mid) st) (text_below old mid c.args.name (over_push old mid value pushed) c.requires.name) ∙ ap (λ v. assign (get_or old c.args.name []) v st) (last-pushed old mid value pushed))
    (c.in_ok-assign_top.ensures.answer here w told)))
    (search rules) (λ a shown. tt)
