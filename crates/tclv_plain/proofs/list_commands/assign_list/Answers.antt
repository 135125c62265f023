use Rattle.std.proofs.Common.{rules, refl, arith, ap, ◌∙◌, drop, [], get_or, sym, length, length-drop, ◌+◌, ◌-◌, ◌≡◌}
use Rattle.tclv_text.specs.Quotes.{list_text}
use Rattle.tclv_engine.specs.State.{state_of}
use Rattle.tclv_engine.specs.Results.{plain}
use Rattle.tclv_engine.specs.ListAssignment.{listed, assign_each}
use Rattle.tclv_engine.proofs.Binds.{runs_as, bind_ok, then_stop}
use Rattle.tclv_engine.proofs.Leaves.{memory_runs, value_runs}
use Rattle.tclv_engine.proofs.StackLemmas.{last-pushed}
use Rattle.tclv_engine.proofs.ListLemmas.{all_from, list_stays}
use Rattle.tclv_plain.proofs.list_commands.assign_list.Goals as goal

pub returns-in_err-assign_places-clause-answer : goal.returns-in_err-assign_places-clause-answer
returns-in_err-assign_places-clause-answer g c here w told =
    let stack = c.args.machine.now.values.store.stack in
    then_stop _ (search rules)
    (runs_as (ap (λ names. assign_each names (listed (get_or c.args.machine.now.values.store.stack c.args.list [])) (state_of c.args.machine.now w)) (all_from stack (c.args.list + 1) c.height-height.result c.height-height.ensures)) (c.in_err-assign_places.ensures.answer here w told))

pub push_rest-requires-clause-list : goal.push_rest-requires-clause-list
push_rest-requires-clause-list g c = list_stays _ _ (ap (λ s. get_or s c.args.list []) c.in_ok-assign_places.ensures.stack) c.requires.list

pub push_rest-requires-clause-len : goal.push_rest-requires-clause-len
push_rest-requires-clause-len g c = c.requires.len ∙ ap (λ s. length (listed (get_or s c.args.list []))) (sym c.in_ok-assign_places.ensures.stack)

pub returns-in_err-push_rest-clause-answer : goal.returns-in_err-push_rest-clause-answer
returns-in_err-push_rest-clause-answer g c here w told =
    let stack = c.args.machine.now.values.store.stack in
    bind_ok _
    (runs_as (ap (λ names. assign_each names (listed (get_or c.args.machine.now.values.store.stack c.args.list [])) (state_of c.args.machine.now w)) (all_from stack (c.args.list + 1) c.height-height.result c.height-height.ensures)) (c.in_ok-assign_places.ensures.answer here w told))
    (λ u v e shown. memory_runs (search rules) e c.in_err-push_rest.ensures.same.events)

pub returns-clause-answer : goal.returns-clause-answer
returns-clause-answer g c here w told =
    let stack = c.args.machine.now.values.store.stack in
    let names = drop (c.args.list + 1) stack in
    let count : c.height-height.result - (c.args.list + 1) ≡ length names = omega (arith, c.height-height.ensures, length-drop (c.args.list + 1) stack) in
    bind_ok _
    (runs_as (ap (λ ns. assign_each ns (listed (get_or c.args.machine.now.values.store.stack c.args.list [])) (state_of c.args.machine.now w)) (all_from stack (c.args.list + 1) c.height-height.result c.height-height.ensures)) (c.in_ok-assign_places.ensures.answer here w told))
    (λ u v e shown. value_runs {a = plain (list_text (drop (length names) (listed (get_or c.args.machine.now.values.store.stack c.args.list []))))} c.assign_places.new.self e c.in_ok-push_rest.ensures.same
    (last-pushed _ _ _ c.in_ok-push_rest.ensures.pushed ∙ ap (λ s. list_text (drop (c.height-height.result - (c.args.list + 1)) (listed (get_or s c.args.list [])))) c.in_ok-assign_places.ensures.stack ∙ ap (λ k. list_text (drop k (listed (get_or c.args.machine.now.values.store.stack c.args.list [])))) count, refl))
