use Rattle.std.proofs.Common.{rules, ◌∙◌, refl, sym, ap, []}
use Rattle.std.specs.Result.{result_unwrap_or}
use Rattle.std.specs.Option.{option_map}
use Rattle.std.proofs.lemmas.Bool.{cond-true, cond-false}
use Rattle.tclv_value.specs.View.{text_at}
use Rattle.tclv_reply.specs.Names.{naming}
use Rattle.tclv_engine.specs.Names.{bytes_of}
use Rattle.tclv_engine.specs.Plans.{placed}
use Rattle.tclv_engine.specs.Results.{done}
use Rattle.tclv_engine.specs.State.{state_of}
use Rattle.tclv_engine.proofs.Binds.{runs_as}
use Rattle.tclv_engine.proofs.Leaves.{raise_runs, done_runs, value_runs, memory_runs}
use Rattle.tclv_plain.specs.ArrayRows.{fitting, indices_of}
use Rattle.tclv_plain.proofs.ArrayLemmas.{none_found, none_fits}
use Rattle.tclv_plain.proofs.array_indices.indices_made.Goals as goal

pub returns-then-shape-clause-answer : goal.returns-then-shape-clause-answer
returns-then-shape-clause-answer g c here w told =
    runs_as (sym (cond-true _ _ _ (sym (ap (λ s. s.qualified) c.shape_at-shape.ensures) ∙ c.if-shape.true)))
    (raise_runs c.args.machine.now told c.not_built.ensures.same c.not_built.ensures.raises)

pub returns-in_err-choose-in-Ok-clause-answer : goal.returns-in_err-choose-in-Ok-clause-answer
returns-in_err-choose-in-Ok-clause-answer g c here w told = memory_runs (search rules) told c.choose.ensures.same.events

pub returns-in_ok-choose-in-Ok-clause-answer : goal.returns-in_ok-choose-in-Ok-clause-answer
returns-in_ok-choose-in-Ok-clause-answer g c here w told =
    let old = c.args.machine.now in
    let pattern = option_map (placed old.values.store.stack) c.args.pattern in
    runs_as
    (ap (λ r. done (fitting pattern (result_unwrap_or r [])) (state_of old w)) (sym c.in-Ok.ensures.indices)
    ∙ sym (cond-false _ _ _ (sym (ap (λ s. s.qualified) c.shape_at-shape.ensures) ∙ c.if-shape.false)))
    (value_runs {a = fitting pattern c.in-Ok.indices} old told c.choose.ensures.same c.in_ok-choose-in-Ok.ensures.chosen)

pub returns-then-eq-clause-answer : goal.returns-then-eq-clause-answer
returns-then-eq-clause-answer g c here w told = memory_runs refl told refl

pub returns-else-eq-clause-answer : goal.returns-else-eq-clause-answer
returns-else-eq-clause-answer g c here w told =
    let old = c.args.machine.now in
    let pattern = option_map (placed old.values.store.stack) c.args.pattern in
    let n = naming (bytes_of (text_at old.values.store c.args.name)) in
    runs_as
    (ap (λ ts. done ts (state_of old w)) (sym (none_fits pattern))
    ∙ ap (λ ts. done (fitting pattern ts) (state_of old w)) (sym (none_found (indices_of old.values.vars n) c.in-Err.fault (λ e. search (rules, e, c.if-eq.ensures)) c.in-Err.ensures.refused))
    ∙ sym (cond-false _ _ _ (sym (ap (λ s. s.qualified) c.shape_at-shape.ensures) ∙ c.if-shape.false)))
    (done_runs told refl c.no_indices.ensures)
