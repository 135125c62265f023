use Rattle.std.proofs.Common.{◌∙◌, sym, ap}
use Rattle.std.proofs.lemmas.Bool.{cond-true, cond-false}
use Rattle.tclv_engine.specs.State.{state_of}
use Rattle.tclv_engine.specs.Results.{ok}
use Rattle.tclv_engine.proofs.Binds.{runs_as}
use Rattle.tclv_engine.proofs.Leaves.{raise_runs}
use Rattle.tclv_plain.specs.Subcommands.{flag}
use Rattle.tclv_plain.specs.InfoRows.{is_set}
use Rattle.tclv_plain.proofs.info_commands.exists_made.Goals as goal

pub returns-then-shape-clause-answer : goal.returns-then-shape-clause-answer
returns-then-shape-clause-answer g c here w told =
    runs_as (sym (cond-true _ _ _ (sym (ap (λ s. s.qualified) c.shape_at-shape.ensures) ∙ c.if-shape.true)))
    (raise_runs c.args.machine.now told c.not_built.ensures.same c.not_built.ensures.raises)

pub returns-clause-answer : goal.returns-clause-answer
returns-clause-answer g c here w told =
    runs_as
    (ap (λ b. ok (flag b) (state_of c.args.machine.now w)) (c.is_set-found.ensures ∙ ap is_set c.cell_at.ensures.answer)
    ∙ sym (cond-false _ _ _ (sym (ap (λ s. s.qualified) c.shape_at-shape.ensures) ∙ c.if-shape.false)))
    (c.push_flag.ensures.answer here w told)
