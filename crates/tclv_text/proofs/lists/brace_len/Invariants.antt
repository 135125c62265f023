use Rattle.std.proofs.Common.{◌≡◌, ◌+◌, ◌≤◌, drop, false}
use Rattle.tclv_text.specs.Scans.{scan_len}
use Rattle.tclv_text.specs.Elements.{brace_step}
use Rattle.tclv_text.proofs.lists.brace_len.Given as goal

abbrev pub invariant-loop-i : goal.invariant-loop-i
invariant-loop-i l =
    (l.i + scan_len brace_step (l.depth, l.escaped) (drop l.i l.text) ≡ scan_len brace_step (0, false) l.text) × (l.depth ≤ l.i)
