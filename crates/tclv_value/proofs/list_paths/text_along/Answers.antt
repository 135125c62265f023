use Rattle.tclv_value.proofs.PathLemmas.{one_back}
use Rattle.tclv_value.proofs.list_paths.text_along.Goals as goal

pub loop-step-preserved : goal.loop-step-preserved
loop-step-preserved c = one_back c.loop-step.steps.items c.pop.new.self.items c.in-Some.step c.loop-step.text c.in_ok-text.text _ c.in-Some.ensures.items c.in_ok-text.ensures c.loop-step.invariant
