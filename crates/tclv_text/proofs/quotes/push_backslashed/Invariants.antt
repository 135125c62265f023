use Rattle.std.proofs.Common.{◌≡◌, ◌++◌, List, ℕ, drop}
use Rattle.tclv_text.specs.Quotes.{backslashed}
use Rattle.tclv_text.proofs.quotes.push_backslashed.Given as goal

abbrev pub invariant-loop-b : goal.invariant-loop-b
invariant-loop-b l = (done : List ℕ) × (l.out.items ≡ l.fn.out.items ++ done) × (done ++ backslashed l.full (drop l.b-index l.text) ≡ backslashed l.full l.text)
