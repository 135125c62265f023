use Rattle.std.proofs.Common.{◌≡◌, drop}
use Rattle.tclv_shell.specs.FileEnds.{option_number}
use Rattle.tclv_shell.proofs.file_ends.option_number.Given as goal

abbrev pub invariant-loop-pair : goal.invariant-loop-pair
invariant-loop-pair l = option_number l.key l.otherwise (drop l.pair-index l.options) ≡ option_number l.key l.otherwise l.options
