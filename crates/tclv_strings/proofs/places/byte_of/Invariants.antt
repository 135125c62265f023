use Rattle.tclv_text.specs.Cuts.{IsCut}
use Rattle.tclv_strings.proofs.places.byte_of.Given as goal

-- So many characters are passed.
abbrev pub invariant-loop-k : goal.invariant-loop-k
invariant-loop-k l = IsCut l.text l.at l.k
