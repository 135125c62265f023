use Rattle.std.proofs.Common.{◌≡◌, drop}
use Rattle.std.specs.Prelude.{◌==◌}
use Rattle.std.specs.List.{position_from}
use Rattle.tclv_io.proofs.real.place_of.Given as goal

abbrev pub invariant-loop-i : goal.invariant-loop-i
invariant-loop-i g l = position_from (λ f. f.number == l.number) l.i (drop l.i l.files) ≡ position_from (λ f. f.number == l.number) 0 l.files
