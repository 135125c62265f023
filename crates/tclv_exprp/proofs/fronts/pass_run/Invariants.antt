use Rattle.std.proofs.Common.{◌≡◌, ◌≤◌, ◌+◌, length, drop}
use Rattle.tclv_exprp.specs.Fronts.{run_len}
use Rattle.tclv_exprp.proofs.fronts.pass_run.Given as goal

abbrev pub invariant-run : goal.invariant-run
invariant-run l =
    record {
      place : l.cursor ≡ drop l.len l.fn.cursor;
      run : run_len l.class l.fn.cursor ≡ l.len + run_len l.class l.cursor;
      left : l.len + length l.cursor ≤ length l.fn.cursor;
    }

abbrev pub decreases-run : goal.decreases-run
decreases-run l = length l.cursor
