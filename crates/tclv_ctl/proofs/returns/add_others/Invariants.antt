use Rattle.std.proofs.Common.{◌≡◌, ◌++◌, drop, map}
use Rattle.tclv_ctl.specs.Returns.{pair_of, beside_error_code}
use Rattle.tclv_ctl.proofs.returns.add_others.Given as goal

-- So many pairs are passed.
abbrev pub invariant-loop-k : goal.invariant-loop-k
invariant-loop-k l = map pair_of l.initial.options ++ beside_error_code l.pairs ≡ map pair_of l.options ++ beside_error_code (drop l.k l.pairs)
