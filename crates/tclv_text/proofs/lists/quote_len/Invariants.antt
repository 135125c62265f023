use Rattle.std.proofs.Common.{◌≡◌, ◌+◌, drop, false}
use Rattle.tclv_text.specs.Scans.{scan_len}
use Rattle.tclv_text.specs.Elements.{quote_step}
use Rattle.tclv_text.proofs.lists.quote_len.Given as goal

abbrev pub invariant-loop-i : goal.invariant-loop-i
invariant-loop-i l = l.i + scan_len quote_step l.escaped (drop l.i l.text) ≡ scan_len quote_step false l.text
