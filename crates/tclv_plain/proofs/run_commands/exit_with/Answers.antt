use Rattle.std.proofs.Common.{rules, refl, ap, ◌∙◌, ◌≡◌, arith, to_z, of_z, w64, FitsSigned}
use Rattle.std.proofs.lemmas.Int.{ints}
use Rattle.tclv_engine.specs.State.{state_of}
use Rattle.tclv_engine.specs.Results.{Exit, ends}
use Rattle.tclv_plain.specs.RunRows.{status_of}
use Rattle.tclv_engine.proofs.Binds.{runs_as, bind_ok, then_stop}
use Rattle.tclv_engine.proofs.Leaves.{exit_runs}
use Rattle.tclv_plain.proofs.run_commands.exit_with.Goals as goal

pub returns-in_err-n-clause-answer : goal.returns-in_err-n-clause-answer
returns-in_err-n-clause-answer g c here w told = then_stop _ (search rules) (c.in_err-n.ensures.answer here w told)

pub returns-clause-answer : goal.returns-clause-answer
returns-clause-answer g c here w told =
    let fits : FitsSigned w64 c.in_ok-n.n = search rules in
    let same : to_z w64 (of_z w64 c.in_ok-n.n) ≡ c.in_ok-n.n = omega (arith, ints) in
    bind_ok _ (c.in_ok-n.ensures.answer here w told)
    (λ a v e shown. runs_as (ap (λ s. ends (Exit s) (state_of c.whole_at.new.self v)) (c.status_of.ensures ∙ ap status_of (same ∙ shown))) (exit_runs e refl))
