use Rattle.std.proofs.Common.{◌≡◌, ◌≤◌, drop}
use Rattle.std.specs.List.{prefix_len}
use Rattle.tclv_reply.proofs.ShownLemmas.{p}
use Rattle.tclv_reply.proofs.values.shown.Given as goal

abbrev pub invariant-loop-count : goal.invariant-loop-count
invariant-loop-count l = record { rest : l.at ≡ drop l.count l.from; passed : l.count ≤ prefix_len p l.from }
