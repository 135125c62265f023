use Rattle.std.proofs.Common.{◌≡◌}
use Rattle.tclv_ctl.proofs.PutLemmas.{Passed}
use Rattle.tclv_ctl.proofs.dicts.put.Given as goal

-- So many pairs have other keys.
abbrev pub invariant-loop-k : goal.invariant-loop-k
invariant-loop-k l = record { same : l.pairs.items ≡ l.initial.pairs.items; came : Passed l.fn.key l.fn.value l.initial.pairs.items l.k }
