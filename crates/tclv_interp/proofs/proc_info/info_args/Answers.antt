use Rattle.std.proofs.Common.{rules, ap, ◌∙◌, refl}
use Rattle.tclv_text.specs.Quotes.{list_text}
use Rattle.tclv_engine.specs.Results.{plain}
use Rattle.tclv_engine.proofs.Binds.{bind_ok, then_stop}
use Rattle.tclv_engine.proofs.Leaves.{memory_runs, value_runs}
use Rattle.tclv_engine.proofs.StackLemmas.{last-pushed}
use Rattle.tclv_engine.proofs.WordLemmas.{values_same}
use Rattle.tclv_interp.specs.ProcInfoRows.{parameters_of}
use Rattle.tclv_interp.proofs.proc_info.info_args.Goals as goal

pub returns-in_err-def-clause-answer : goal.returns-in_err-def-clause-answer
returns-in_err-def-clause-answer c here w told = then_stop _ (search rules) (c.in_err-def.ensures.answer here w told)

pub returns-in_err-push_parameters-clause-answer : goal.returns-in_err-push_parameters-clause-answer
returns-in_err-push_parameters-clause-answer c here w told =
    bind_ok _ (c.in_ok-def.ensures.answer here w told) (λ d v e shown. memory_runs (search rules) e refl)

pub returns-clause-answer : goal.returns-clause-answer
returns-clause-answer c here w told =
    let mid = c.procedure_at.new.machine in
    bind_ok _ (c.in_ok-def.ensures.answer here w told)
    (λ d v e shown. value_runs {a = plain (list_text (parameters_of d))} mid e (values_same mid c.push_parameters.new.values c.push_parameters.ensures.same)
    (last-pushed _ _ _ c.in_ok-push_parameters.ensures.pushed ∙ ap (λ p. list_text (parameters_of p)) (c.deref.ensures ∙ shown), refl))
