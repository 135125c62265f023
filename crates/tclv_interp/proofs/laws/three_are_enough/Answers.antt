use Rattle.tclv_interp.proofs.CountLemmas.{three_are_enough}
use Rattle.tclv_interp.proofs.laws.three_are_enough.Goals as goal

pub returns : goal.returns
returns c = three_are_enough
