use Rattle.tclv_value.specs.Elements.{IsListText}
use Rattle.tclv_value.specs.Sequences.{sequence}
use Rattle.tclv_value.proofs.sequences.sequence_bytes.Given as goal

-- So many numbers are written.
abbrev pub invariant-loop-k : goal.invariant-loop-k
invariant-loop-k l = IsListText (sequence l.start l.step l.k) l.list.items
