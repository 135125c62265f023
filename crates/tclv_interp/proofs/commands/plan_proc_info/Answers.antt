use Rattle.std.proofs.Common.{rules, refl, sym, ap, ◌∙◌}
use Rattle.tclv_model.specs.declared.outcomes.Code.TheVariants as code
use Rattle.tclv_engine.specs.declared.endings.Carried.TheVariants.{Plain}
use Rattle.tclv_engine.specs.Results.{carried}
use Rattle.tclv_engine.specs.Plans.{Finished}
use Rattle.tclv_engine.proofs.Binds.{bind_ok, then_stop}
use Rattle.tclv_engine.proofs.Leaves.{done_runs}
use Rattle.tclv_interp.proofs.commands.plan_proc_info.Goals as goal

pub returns-in_err-run_proc_info-clause-answer : goal.returns-in_err-run_proc_info-clause-answer
returns-in_err-run_proc_info-clause-answer c here w told = then_stop _ (search rules) (c.in_err-run_proc_info.ensures.answer here w told)

pub returns-clause-answer : goal.returns-clause-answer
returns-clause-answer c here w told =
    bind_ok _ (c.in_ok-run_proc_info.ensures.answer here w told)
    (λ o v e shown. done_runs e refl
    (sym (ap (λ t. Finished (record { text = t; options = carried code.Ok Plain })) shown.0 ∙ ap (λ os. Finished (record { text = o.text; options = os })) (sym shown.1))))
