use Rattle.std.proofs.Common.{◌≡◌, take, map}
use Rattle.tclv_ctl.specs.Returns.{pair_of}
use Rattle.tclv_ctl.proofs.returns.options_of.Given as goal

-- So many pairs are there.
abbrev pub invariant-loop-k : goal.invariant-loop-k
invariant-loop-k l = map pair_of l.options ≡ take l.k l.pairs
