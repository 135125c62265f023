use Rattle.tclv_interp.proofs.BuiltinLemmas.{stands_for}
use Rattle.tclv_interp.proofs.laws.built_in_alone.Goals as goal

pub returns : goal.returns
returns c = stands_for
