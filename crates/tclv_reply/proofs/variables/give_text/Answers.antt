use Rattle.std.proofs.Common.{◌∙◌}
use Rattle.tclv_value.specs.ListObjects.{KeepsCells}
use Rattle.tclv_reply.proofs.variables.give_text.Goals as goal

pub returns-clause-objects : goal.returns-clause-objects
unfolding KeepsCells
returns-clause-objects c = (c.pop.ensures.objects.0 ∙ c.copy_over.ensures.objects.0, c.pop.ensures.objects.1 ∙ c.copy_over.ensures.objects.1)
