use Rattle.std.proofs.Common.{◌≡◌, drop}
use Rattle.tclv_ctl.specs.Handlers.{begins_with}
use Rattle.tclv_ctl.proofs.trapping.begins_with.Given as goal

-- So many words are the same.
abbrev pub invariant-loop-k : goal.invariant-loop-k
invariant-loop-k l = begins_with l.words l.front ≡ begins_with (drop l.k l.words) (drop l.k l.front)
