use Rattle.std.proofs.Common.{rules, ap, ◌∙◌, refl}
use Rattle.tclv_value.specs.Procedures.{Procedure}
use Rattle.tclv_engine.specs.Results.{plain}
use Rattle.tclv_engine.proofs.Binds.{bind_ok, then_stop}
use Rattle.tclv_engine.proofs.Leaves.{memory_runs, value_runs}
use Rattle.tclv_engine.proofs.StackLemmas.{last-pushed}
use Rattle.tclv_engine.proofs.WordLemmas.{values_same}
use Rattle.tclv_interp.proofs.proc_info.info_body.Goals as goal

pub returns-in_err-def-clause-answer : goal.returns-in_err-def-clause-answer
returns-in_err-def-clause-answer c here w told = then_stop _ (search rules) (c.in_err-def.ensures.answer here w told)

pub returns-in_err-push_text-clause-answer : goal.returns-in_err-push_text-clause-answer
returns-in_err-push_text-clause-answer c here w told =
    bind_ok _ (c.in_ok-def.ensures.answer here w told) (λ d v e shown. memory_runs (search rules) e refl)

pub returns-clause-answer : goal.returns-clause-answer
returns-clause-answer c here w told =
    let mid = c.procedure_at.new.machine in
    bind_ok _ (c.in_ok-def.ensures.answer here w told)
    (λ d v e shown. value_runs {a = plain d.body} mid e (values_same mid c.push_text.new.self c.push_text.ensures.same)
    (last-pushed _ _ _ c.in_ok-push_text.ensures.pushed ∙ c.bytes.ensures.text ∙ c.body.ensures ∙ ap (λ (p : Procedure). p.body) (c.deref.ensures ∙ shown), refl))
