use Rattle.std.proofs.Common.{◌≡◌, ◌≤◌, drop, false}
use Rattle.tclv_text.specs.Quotes.{fits_braces}
use Rattle.tclv_text.proofs.quotes.fits_braces.Given as goal

abbrev pub invariant-loop-b : goal.invariant-loop-b
invariant-loop-b l = (fits_braces (l.depth, l.escaped) (drop l.b-index l.text) ≡ fits_braces (0, false) l.text) × (l.depth ≤ l.b-index)
