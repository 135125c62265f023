use Rattle.std.proofs.Common.{rules, ap}
use Rattle.tclv_text.specs.Quotes.{list_text}
use Rattle.tclv_engine.specs.State.{state_of}
use Rattle.tclv_engine.specs.Variables.{assign}
use Rattle.tclv_engine.proofs.Binds.{runs_as}
use Rattle.tclv_engine.proofs.Leaves.{memory_runs, from_same}
use Rattle.tclv_engine.proofs.StackLemmas.{last-pushed}
use Rattle.tclv_control.specs.Outcomes.{option_words}
use Rattle.tclv_control.specs.OutcomeSteps.{options_ended}
use Rattle.tclv_control.proofs.CatchLemmas.{one_above, words_over}
use Rattle.tclv_control.proofs.catch_plans.note_dict.Goals as goal

pub returns-in_err-push_options-clause-answer : goal.returns-in_err-push_options-clause-answer
returns-in_err-push_options-clause-answer g c here w told = memory_runs (search rules) told c.in_err-push_options.ensures.same.events

pub returns-clause-answer : goal.returns-clause-answer
returns-clause-answer g c here w told =
    let mid = c.push_options.new.machine in
    let value = list_text (option_words (options_ended c.args.ended)) in
    from_same c.args.machine.now mid (assign c.args.name.now value) c.in_ok-push_options.ensures.same
    (runs_as (ap (λ v. assign c.args.name.now v (state_of mid w)) (last-pushed _ mid.values.store.stack value c.in_ok-push_options.ensures.pushed)) (c.note_top.ensures.answer here w told))

pub returns-clause-stack : goal.returns-clause-stack
returns-clause-stack g c =
    let old = c.args.machine.now.values.store.stack in
    let mid = c.push_options.new.machine.values.store.stack in
    words_over old mid c.note_top.result c.note_top.new.machine.values.store.stack (one_above old mid _ c.in_ok-push_options.ensures.pushed) c.note_top.ensures.stack
