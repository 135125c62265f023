use Rattle.std.proofs.Common.{arith}
use Rattle.tclv_text.proofs.EscapeLemmas.{run_go, run_no_digit, run_too_large, run_end}
use Rattle.tclv_text.proofs.escapes.digit_run.Goals as goal

pub loop-count-preserved : goal.loop-count-preserved
loop-count-preserved c = record {
  rest = run_go c.args.radix c.args.most c.args.limit c.loop-count.count c.loop-count.value c.args.text.now _ _ c.loop-count-test.true c.if-count-text.true (omega arith) (omega arith) (omega arith) c.loop-count.invariant.rest;
  within = omega arith;
  short = omega arith;
  most = omega arith;
}

pub returns-else-count-text-clause-run : goal.returns-else-count-text-clause-run
returns-else-count-text-clause-run c = run_end c.args.radix c.args.most c.args.limit c.loop-count.count c.loop-count.value c.args.text.now _ c.if-count-text.false c.loop-count.invariant.rest

pub returns-then-d-radix-clause-run : goal.returns-then-d-radix-clause-run
returns-then-d-radix-clause-run c =
    run_no_digit c.args.radix c.args.most c.args.limit c.loop-count.count c.loop-count.value c.args.text.now _ c.loop-count-test.true c.if-count-text.true (omega arith) c.loop-count.invariant.rest

pub returns-then-next-most-clause-run : goal.returns-then-next-most-clause-run
returns-then-next-most-clause-run c =
    run_too_large c.args.radix c.args.most c.args.limit c.loop-count.count c.loop-count.value c.args.text.now _ c.loop-count-test.true c.if-count-text.true (omega arith) c.loop-count.invariant.rest
