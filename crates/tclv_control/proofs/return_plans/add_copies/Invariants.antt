use Rattle.std.proofs.Common.{◌≡◌, ◌++◌, take}
use Rattle.tclv_control.proofs.return_plans.add_copies.Given as goal

-- So many pairs were put behind the others.
abbrev pub invariant-loop-k : goal.invariant-loop-k
invariant-loop-k l = l.options ≡ l.initial.options ++ take l.k l.pairs
