use Rattle.tclv_engine.proofs.InstructionLemmas.{gives_value}
use Rattle.tclv_engine.proofs.FitLemmas.{fits_flat}
use Rattle.tclv_engine.proofs.laws.instructions_give_values.Goals as goal

pub returns-clause-gives : goal.returns-clause-gives
returns-clause-gives g c = gives_value

pub returns-clause-fits : goal.returns-clause-fits
returns-clause-fits g c = fits_flat
