use Rattle.std.proofs.Common.{◌≡◌, drop}
use Rattle.tclv_reply.specs.Names.{is_qualified}
use Rattle.tclv_reply.proofs.names.is_qualified.Given as goal

abbrev pub invariant-loop-i : goal.invariant-loop-i
invariant-loop-i l = is_qualified l.name ≡ is_qualified (drop l.i l.name)
