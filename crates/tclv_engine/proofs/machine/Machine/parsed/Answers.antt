use Rattle.std.proofs.Common.{rules, refl, ap, sym, subst}
use Rattle.tclv_engine.specs.ExpressionFaults.{Refuses}
use Rattle.tclv_engine.proofs.WordLemmas.{text_kept, values_then}
use Rattle.tclv_value.specs.View.{text_at}
use Rattle.tclv_engine.specs.State.{state_of}
use Rattle.tclv_engine.specs.Expressions.{parsed_by}
use Rattle.tclv_engine.proofs.Binds.{runs_as}
use Rattle.tclv_engine.proofs.RunLemmas.{tree_found, fits_found, fault_found}
use Rattle.tclv_engine.proofs.Leaves.{value_runs}
use Rattle.tclv_engine.proofs.ExpressionFaultLemmas.{refused_runs}
use Rattle.tclv_engine.proofs.machine.Machine.parsed.Goals as goal

pub returns-in-Ok-clause-answer : goal.returns-in-Ok-clause-answer
returns-in-Ok-clause-answer g c here w told =
    let found = tree_found (text_at c.args.self.now.values.store c.args.at) _ c.in-Ok.ensures.instructions in
    runs_as (ap (λ r. parsed_by (text_at c.args.self.now.values.store c.args.at) r (state_of c.args.self.now w)) (sym found.1.0))
    (value_runs c.args.self.now told (search rules) found.1.1)

pub returns-in-Ok-clause-fits : goal.returns-in-Ok-clause-fits
returns-in-Ok-clause-fits g c = fits_found (text_at c.args.self.now.values.store c.args.at) _ c.in-Ok.ensures.instructions

pub returns-in-Err-clause-answer : goal.returns-in-Err-clause-answer
returns-in-Err-clause-answer g c here w told =
    let kept = text_kept c.args.self.now.values.store c.expr.new.self.store c.args.at c.in-Err.ensures.stack c.in-Err.ensures.same.cells in
    refused_runs _ _ _ _ w here c.args.self.now (text_at c.args.self.now.values.store c.args.at) told
    (values_then c.args.self.now _ c.expr.new.self c.in-Err.ensures.same c.refuse_expression.ensures.same) c.in-Err.why (fault_found (text_at c.args.self.now.values.store c.args.at) c.in-Err.why c.in-Err.ensures.refused)
    (subst (λ t. Refuses c.in-Err.why t c.refuse_expression.new.self.values.store.stack c.refuse_expression.result) kept c.refuse_expression.ensures.refuses)
