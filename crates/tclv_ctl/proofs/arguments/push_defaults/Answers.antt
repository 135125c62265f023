use Rattle.std.proofs.Common.{arith}
use Rattle.tclv_ctl.proofs.ArgumentLemmas.{end_listed}
use Rattle.tclv_ctl.proofs.arguments.push_defaults.Goals as goal

pub returns-in_ok-push_bytes-clause-pushed : goal.returns-in_ok-push_bytes-clause-pushed
returns-in_ok-push_bytes-clause-pushed c =
    end_listed c.args.params.now c.args.rest c.loop-param.param-index c.args.store.now.stack c.loop-param.store.stack c.push_bytes-then-rest.new.store.stack c.loop-param.invariant.came (omega (arith, c.loop-param-test.false)) c.if-rest.true c.in_ok-push_bytes.ensures.pushed.stack
