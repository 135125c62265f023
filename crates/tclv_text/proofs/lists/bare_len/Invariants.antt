use Rattle.std.proofs.Common.{◌≡◌, ◌+◌, drop}
use Rattle.tclv_text.specs.Scans.{scan_len}
use Rattle.tclv_text.specs.Elements.{bare_step}
use Rattle.tclv_text.specs.declared.lists.Bare.TheVariants.{Plain}
use Rattle.tclv_text.proofs.lists.bare_len.Given as goal

abbrev pub invariant-loop-i : goal.invariant-loop-i
invariant-loop-i l = l.i + scan_len bare_step l.state (drop l.i l.text) ≡ scan_len bare_step Plain l.text
