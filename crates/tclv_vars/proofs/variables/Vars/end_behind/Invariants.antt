use Rattle.std.proofs.Common.{length}
use Rattle.tclv_vars.proofs.EndingLemmas.{Ending}
use Rattle.tclv_vars.proofs.variables.Vars.end_behind.Given as goal

abbrev pub invariant-loop-self : goal.invariant-loop-self
invariant-loop-self l = Ending l.count l.fn.self l.self l.fn.store.cells l.store.cells l.fn.store.stack l.store.stack

abbrev pub decreases-loop-self : goal.decreases-loop-self
decreases-loop-self l = length l.self.scopes.frames
