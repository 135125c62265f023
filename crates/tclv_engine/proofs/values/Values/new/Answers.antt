use Rattle.tclv_engine.proofs.HoldingsLemmas.{tied_at_start}
use Rattle.tclv_engine.proofs.values.Values.new.Goals as goal

pub invariant_of-result : goal.invariant_of-result
invariant_of-result c = tied_at_start c.in_ok-vars.ensures.start c.new-2.ensures.cells
