use Rattle.std.proofs.Common.{◌≡◌, ◌+◌, ◌-◌, ◌≤◌, drop, length}
use Rattle.tclv_text.specs.Escapes.{digit_run}
use Rattle.tclv_text.proofs.escapes.digit_run.Given as goal

abbrev pub invariant-loop-count : goal.invariant-loop-count
invariant-loop-count l = record {
  rest : ((digit_run l.radix l.most (l.limit - l.count) l.value (drop l.count l.text)).0, (digit_run l.radix l.most (l.limit - l.count) l.value (drop l.count l.text)).1 + l.count) ≡ digit_run l.radix l.most l.limit 0 l.text;
  within : l.count ≤ length l.text;
  short : l.count ≤ l.limit;
  most : l.value ≤ l.most;
}

abbrev pub decreases-loop-count : goal.decreases-loop-count
decreases-loop-count l = l.limit - l.count
