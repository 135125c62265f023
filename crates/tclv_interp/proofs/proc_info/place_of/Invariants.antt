use Rattle.std.proofs.Common.{◌≡◌, drop}
use Rattle.tclv_engine.specs.Frames.{names_of}
use Rattle.tclv_interp.specs.ProcInfoRows.{place_from}
use Rattle.tclv_interp.proofs.proc_info.place_of.Given as goal

-- None of the names before a number is this one.
abbrev pub invariant-loop-i : goal.invariant-loop-i
invariant-loop-i l = place_from (names_of l.params) l.name 0 ≡ place_from (drop l.i (names_of l.params)) l.name l.i
