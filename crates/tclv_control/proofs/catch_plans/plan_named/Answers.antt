use Rattle.std.proofs.Common.{rules, sym, ap, ◌∙◌, Some, None}
use Rattle.tclv_engine.specs.Plans.{Run, placed}
use Rattle.tclv_engine.proofs.Leaves.{memory_runs, value_runs}
use Rattle.tclv_control.specs.declared.behind.Behind.TheVariants as behind
use Rattle.tclv_control.proofs.catch_plans.plan_named.Goals as goal

pub returns-in_err-name-clause-answer : goal.returns-in_err-name-clause-answer
returns-in_err-name-clause-answer g c here w told = memory_runs (search rules) told c.in_err-name.ensures.same.events

pub returns-clause-answer : goal.returns-clause-answer
returns-clause-answer g c here w told =
    let stack = c.args.machine.now.values.store.stack in
    value_runs c.args.machine.now told c.in_ok-name.ensures.same
    (sym (ap (λ s. Run (placed s c.args.script) (behind.Catch (Some c.in_ok-name.name) None)) c.in_ok-name.ensures.stack ∙ ap (λ t. Run (placed stack c.args.script) (behind.Catch (Some t) None)) c.in_ok-name.ensures.text))
