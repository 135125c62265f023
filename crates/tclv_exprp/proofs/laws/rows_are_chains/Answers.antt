use Rattle.tclv_exprp.proofs.ChainLemmas.{rows_are}
use Rattle.tclv_exprp.proofs.laws.rows_are_chains.Goals as goal

pub returns : goal.returns
returns c = rows_are
