use Rattle.std.proofs.Common.{◌≡◌, drop}
use Rattle.tclv_exprp.proofs.fronts.pass.Given as goal

abbrev pub invariant-loop-turn : goal.invariant-loop-turn
invariant-loop-turn l = l.cursor ≡ drop l._turn l.fn.cursor
