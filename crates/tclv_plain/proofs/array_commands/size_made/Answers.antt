use Rattle.std.proofs.Common.{◌∙◌, sym, ap, pos}
use Rattle.std.specs.Result.{result_unwrap_or}
use Rattle.std.proofs.lemmas.Bool.{cond-true, cond-false}
use Rattle.tclv_text.specs.Numbers.{whole_text}
use Rattle.tclv_engine.specs.State.{state_of}
use Rattle.tclv_engine.specs.Results.{ok}
use Rattle.tclv_engine.proofs.Binds.{runs_as}
use Rattle.tclv_engine.proofs.Leaves.{raise_runs}
use Rattle.tclv_plain.proofs.array_commands.size_made.Goals as goal

pub returns-then-shape-clause-answer : goal.returns-then-shape-clause-answer
returns-then-shape-clause-answer g c here w told =
    runs_as (sym (cond-true _ _ _ (sym (ap (λ s. s.qualified) c.shape_at-shape.ensures) ∙ c.if-shape.true)))
    (raise_runs c.args.machine.now told c.not_built.ensures.same c.not_built.ensures.raises)

pub returns-clause-answer : goal.returns-clause-answer
returns-clause-answer g c here w told =
    runs_as
    (ap (λ k. ok (whole_text (pos k)) (state_of c.args.machine.now w)) (c.unwrap_or-count.ensures ∙ ap (λ r. result_unwrap_or r 0) c.size_at.ensures)
    ∙ sym (cond-false _ _ _ (sym (ap (λ s. s.qualified) c.shape_at-shape.ensures) ∙ c.if-shape.false)))
    (c.push_count.ensures.answer here w told)
