use Rattle.std.proofs.Common.{◌≡◌, drop}
use Rattle.tclv_ctl.specs.Returns.{error_code_in}
use Rattle.tclv_ctl.proofs.returns.error_code_in.Given as goal

-- So many pairs have other names.
abbrev pub invariant-loop-k : goal.invariant-loop-k
invariant-loop-k l = error_code_in l.pairs ≡ error_code_in (drop l.k l.pairs)
