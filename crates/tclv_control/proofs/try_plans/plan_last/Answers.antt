use Rattle.std.proofs.Common.{rules, sym, ap, ◌∙◌, ◌-◌, ◌++◌, ◌∷◌, [], Some, length}
use Rattle.tclv_engine.specs.State.{state_of}
use Rattle.tclv_engine.specs.Answers.{last_of}
use Rattle.tclv_engine.specs.Plans.{Run, placed}
use Rattle.tclv_engine.proofs.Binds.{runs_as}
use Rattle.tclv_engine.proofs.Leaves.{memory_runs, value_runs}
use Rattle.tclv_engine.proofs.StackLemmas.{last-pushed}
use Rattle.tclv_control.specs.declared.behind.Behind.TheVariants as behind
use Rattle.tclv_control.specs.OutcomeSteps.{code_ended, options_ended}
use Rattle.tclv_control.specs.TryRows.{at_last}
use Rattle.tclv_control.proofs.TryLemmas.{ended_parts, last_placed, last_wants}
use Rattle.tclv_control.proofs.try_plans.plan_last.Goals as goal

pub returns-in_err-text-clause-answer : goal.returns-in_err-text-clause-answer
returns-in_err-text-clause-answer g c here w told = memory_runs (search rules) told c.in_err-text.ensures.same.events

pub returns-in_err-options-clause-answer : goal.returns-in_err-options-clause-answer
returns-in_err-options-clause-answer g c here w told = memory_runs (search rules) told c.in_ok-text.ensures.same.events

pub returns-in_err-push_text-clause-answer : goal.returns-in_err-push_text-clause-answer
returns-in_err-push_text-clause-answer g c here w told = memory_runs (search rules) told c.in_ok-text.ensures.same.events

pub returns-clause-answer : goal.returns-clause-answer
returns-clause-answer g c here w told =
    let old = c.args.machine.now.values.store.stack in
    runs_as (ap (λ e. at_last (Some c.args.script.now) e (state_of c.args.machine.now w)) (ended_parts c.args.ended (last_of old)))
    (value_runs c.args.machine.now told (search rules)
    (last_wants old c.text_of.new.machine.values.store.stack c.push_text.new.self.store.stack c.args.script.now c.height-at.result (code_ended c.args.ended) c.code_ended-code.result (last_of old) c.in_ok-text.text
    (options_ended c.args.ended) c.in_ok-options.options c.height-at.ensures c.in_ok-text.ensures.stack (c.in_ok-push_text.ensures.pushed ∙ ap (λ t. c.text_of.new.machine.values.store.stack ++ t ∷ []) c.bytes.ensures.text)
    (sym c.code_ended-code.ensures) (sym (c.in_ok-text.ensures.text ∙ last_placed old c.height-at.result c.height-at.ensures)) (sym c.in_ok-options.ensures)))
