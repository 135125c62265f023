use Rattle.std.proofs.Common.{rules, ◌≡◌, ◌∙◌, Err, refl, sym, ap}
use Rattle.std.proofs.lemmas.Bool.{cond-true, cond-false}
use Rattle.tclv_value.specs.View.{text_at}
use Rattle.tclv_vars.specs.declared.faults.VarFault.TheVariants as fault
use Rattle.tclv_model.specs.declared.messages.MessageId.TheVariants.{CannotArraySetNonArray}
use Rattle.tclv_model.specs.declared.error_codes.ErrorCode.TheVariants.{NoCode}
use Rattle.tclv_engine.specs.State.{state_of}
use Rattle.tclv_engine.proofs.Binds.{runs_as}
use Rattle.tclv_engine.proofs.Leaves.{raise_runs, done_runs}
use Rattle.tclv_engine.proofs.WordLemmas.{raise_at_runs}
use Rattle.tclv_plain.specs.ArrayRows.{settable_by}
use Rattle.tclv_plain.proofs.ArrayLemmas.{settable_else}
use Rattle.tclv_plain.proofs.array_setting.settable_made.Goals as goal

pub returns-then-shape-clause-answer : goal.returns-then-shape-clause-answer
returns-then-shape-clause-answer g c here w told =
    runs_as (sym (cond-true _ _ _ (sym (ap (λ s. s.qualified) c.shape_at-shape.ensures) ∙ c.if-shape.true)))
    (raise_runs c.args.machine.now told c.not_built.ensures.same c.not_built.ensures.raises)

pub returns-in-Err-NotArray-clause-answer : goal.returns-in-Err-NotArray-clause-answer
returns-in-Err-NotArray-clause-answer g c here w told =
    let name = text_at c.args.machine.now.values.store c.args.name in
    let is : c.size_at.result ≡ Err fault.NotArray = search rules in
    runs_as
    (ap (λ r. settable_by name r (state_of c.args.machine.now w)) (sym is ∙ c.size_at.ensures)
    ∙ sym (cond-false _ _ _ (sym (ap (λ s. s.qualified) c.shape_at-shape.ensures) ∙ c.if-shape.false)))
    (raise_at_runs c.args.machine.now CannotArraySetNonArray _ name NoCode told c.raise_at.ensures.same refl c.raise_at.ensures.raises)

pub returns-in_default-clause-answer : goal.returns-in_default-clause-answer
returns-in_default-clause-answer g c here w told =
    let name = text_at c.args.machine.now.values.store c.args.name in
    runs_as
    (settable_else name c.size_at.result (state_of c.args.machine.now w) (λ e. search (rules, e, c.in_default))
    ∙ ap (λ r. settable_by name r (state_of c.args.machine.now w)) c.size_at.ensures
    ∙ sym (cond-false _ _ _ (sym (ap (λ s. s.qualified) c.shape_at-shape.ensures) ∙ c.if-shape.false)))
    (done_runs told refl tt)
