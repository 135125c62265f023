use Rattle.std.proofs.Common.{◌≡◌, ◌-◌, length, drop}
use Rattle.tclv_interp.specs.Builtins.{commands_of}
use Rattle.tclv_interp.proofs.builtins.fill.Given as goal

abbrev pub invariant-loop-i : goal.invariant-loop-i
invariant-loop-i l = l.commands ≡ commands_of (λ name. name.now) (drop (length l.table - l.i) l.table)
