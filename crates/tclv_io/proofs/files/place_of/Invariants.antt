use Rattle.std.proofs.Common.{◌≢◌, ℕ, ◌<◌, get_or}
use Rattle.std.specs.Prelude.{string_bytes}
use Rattle.tclv_io.proofs.FileLemmas.{Entry}
use Rattle.tclv_io.proofs.files.place_of.Given as goal

abbrev pub invariant-loop-i : goal.invariant-loop-i
invariant-loop-i l = (d : Entry) (k : ℕ) → k < l.i → string_bytes (get_or l.files k d).0 ≢ l.name
