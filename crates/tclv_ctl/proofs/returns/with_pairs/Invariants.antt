use Rattle.std.proofs.Common.{◌<◌, ◌^◌, drop}
use Rattle.tclv_reply.proofs.Laws.{Went}
use Rattle.tclv_ctl.specs.Returns.{Asks, with_pairs, asks_of}
use Rattle.tclv_ctl.proofs.returns.with_pairs.Given as goal

-- So many pairs are read, and those behind are still to be read.
abbrev pub invariant-loop-k : goal.invariant-loop-k
invariant-loop-k l = record { came : Went {A = Asks} (with_pairs l.pairs (asks_of l.initial.found)) (with_pairs (drop l.k l.pairs) (asks_of l.found)) l.initial.store l.store; small : l.found.level < 2 ^ 63 }
