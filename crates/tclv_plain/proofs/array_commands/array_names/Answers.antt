use Rattle.std.proofs.Common.{rules, ap, ◌∙◌, refl}
use Rattle.tclv_text.specs.Quotes.{list_text}
use Rattle.tclv_engine.specs.Results.{plain}
use Rattle.tclv_engine.proofs.Binds.{bind_ok, then_stop}
use Rattle.tclv_engine.proofs.Leaves.{memory_runs, value_runs}
use Rattle.tclv_engine.proofs.StackLemmas.{last-pushed}
use Rattle.tclv_engine.proofs.WordLemmas.{values_same}
use Rattle.tclv_plain.proofs.array_commands.array_names.Goals as goal

pub returns-in_err-chosen-clause-answer : goal.returns-in_err-chosen-clause-answer
returns-in_err-chosen-clause-answer g c here w told = then_stop _ (search rules) (c.in_err-chosen.ensures.answer here w told)

pub returns-in_err-list_all-clause-answer : goal.returns-in_err-list_all-clause-answer
returns-in_err-list_all-clause-answer g c here w told =
    bind_ok _ (c.in_ok-chosen.ensures.answer here w told) (λ is v e shown. memory_runs (search rules) e refl)

pub returns-clause-answer : goal.returns-clause-answer
returns-clause-answer g c here w told =
    let mid = c.indices.new.machine in
    bind_ok _ (c.in_ok-chosen.ensures.answer here w told)
    (λ is v e shown. value_runs {a = plain (list_text is)} mid e (values_same mid c.list_all.new.values c.list_all.ensures.same)
    (last-pushed _ _ _ c.in_ok-list_all.ensures.pushed ∙ ap list_text shown, refl))
