use Rattle.std.proofs.Common.{rules, sym, ap, ◌∙◌, Some}
use Rattle.tclv_engine.specs.Plans.{Run, placed}
use Rattle.tclv_engine.proofs.Leaves.{memory_runs, value_runs}
use Rattle.tclv_engine.proofs.WordLemmas.{same_then}
use Rattle.tclv_control.specs.declared.behind.Behind.TheVariants as behind
use Rattle.tclv_control.proofs.catch_plans.plan_both.Goals as goal

pub returns-in_err-name-clause-answer : goal.returns-in_err-name-clause-answer
returns-in_err-name-clause-answer g c here w told = memory_runs (search rules) told c.in_err-name.ensures.same.events

pub returns-in_err-options-clause-answer : goal.returns-in_err-options-clause-answer
returns-in_err-options-clause-answer g c here w told =
    let same = same_then c.args.machine.now c.text_of.new.machine c.text_of-2.new.machine c.in_ok-name.ensures.same c.in_err-options.ensures.same in
    memory_runs (search rules) told same.events

pub returns-clause-answer : goal.returns-clause-answer
returns-clause-answer g c here w told =
    let stack = c.args.machine.now.values.store.stack in
    let same = same_then c.args.machine.now c.text_of.new.machine c.text_of-2.new.machine c.in_ok-name.ensures.same c.in_ok-options.ensures.same in
    let kept = c.in_ok-options.ensures.stack ∙ c.in_ok-name.ensures.stack in
    value_runs c.args.machine.now told same
    (sym (ap (λ s. Run (placed s c.args.script) (behind.Catch (Some c.in_ok-name.name) (Some c.in_ok-options.options))) kept
    ∙ ap (λ t. Run (placed stack c.args.script) (behind.Catch (Some t) (Some c.in_ok-options.options))) c.in_ok-name.ensures.text
    ∙ ap (λ t. Run (placed stack c.args.script) (behind.Catch (Some (placed stack c.args.name)) (Some t))) (c.in_ok-options.ensures.text ∙ ap (λ s. placed s c.args.options) c.in_ok-name.ensures.stack)))
