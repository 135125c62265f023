use Rattle.std.proofs.lemmas.Result.{err_from_is_err_and}
use Rattle.tclv_value.proofs.PathLemmas.{stands_more, stands_refused}
use Rattle.tclv_value.proofs.list_paths.steps_of.Goals as goal

pub returns-in_err-step-clause-refused : goal.returns-in_err-step-clause-refused
returns-in_err-step-clause-refused c =
    let p = err_from_is_err_and c.from_residual.result c.from_residual.ensures.1 in
    rw (p.1, p.2) (stands_refused c.args.outer c.args.path.now c.loop-level.level c.loop-level.text c.loop-level.steps.items c.loop-level-test.true c.loop-level.invariant _ c.index-path-level.result c.index-path-level.is c.in_err-step.ensures.refused)

pub loop-level-preserved : goal.loop-level-preserved
loop-level-preserved c =
    stands_more c.args.outer c.args.path.now c.loop-level.level c.loop-level.text c.loop-level.steps.items c.loop-level-test.true c.loop-level.invariant c.in_ok-step.step c.index-path-level.result c.in_ok-text.text c.keep_step.new.steps.items c.index-path-level.is c.in_ok-step.ensures.step c.in_ok-text.ensures c.in_ok-keep_step.ensures
