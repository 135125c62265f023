use Rattle.std.proofs.Common.{sym, subst}
use Rattle.tclv_vars.specs.Sound.{Sound}
use Rattle.tclv_vars.proofs.SoundLemmas.{Sound-no_variables}
use Rattle.tclv_vars.proofs.variables.Vars.new.Goals as goal

pub invariant_of-result : goal.invariant_of-result
invariant_of-result c = subst Sound (sym c.in_ok-tables.ensures) Sound-no_variables
