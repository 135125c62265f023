use Rattle.std.proofs.Common.{◌≡◌}
use Rattle.tclv_vars.specs.Scoping.{above}
use Rattle.tclv_vars.proofs.scopes.Scopes.above.Given as goal

abbrev pub invariant-loop-left : goal.invariant-loop-left
invariant-loop-left l = above l.self l.left l.frame ≡ above l.self l.calls l.self.current

abbrev pub decreases-loop-left : goal.decreases-loop-left
decreases-loop-left l = l.left
