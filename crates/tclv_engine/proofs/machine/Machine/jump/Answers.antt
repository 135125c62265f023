use Rattle.std.proofs.Common.{rules, refl, ap, ◌∙◌}
use Rattle.tclv_engine.specs.Instructions.{passed_where}
use Rattle.tclv_engine.proofs.Binds.{bind_ok, then_stop}
use Rattle.tclv_engine.proofs.Leaves.{done_runs}
use Rattle.tclv_engine.proofs.machine.Machine.jump.Goals as goal

pub returns-in_err-found-clause-answer : goal.returns-in_err-found-clause-answer
returns-in_err-found-clause-answer g c here w told = then_stop _ (search rules) (c.in_err-found.ensures.answer here w told)

pub returns-clause-answer : goal.returns-clause-answer
returns-clause-answer g c here w told =
    bind_ok _ (c.in_ok-found.ensures.answer here w told)
    (λ b v e shown. done_runs e refl (c.in_ok-found.ensures.stack, c.passed_where.ensures ∙ ap (λ x. passed_where c.args.wanted c.args.n x) shown))

pub returns-clause-stack : goal.returns-clause-stack
returns-clause-stack g c = (c.in_ok-found.ensures.stack, (c.in_ok-found.found, c.passed_where.ensures))
