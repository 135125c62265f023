use Rattle.std.proofs.Common.{◌∙◌}
use Rattle.tclv_model.proofs.CodeLemmas.{ascii_points}
use Rattle.tclv_model.proofs.usages.usage_text.Goals as goal

pub returns-clause-points : goal.returns-clause-points
returns-clause-points c = ascii_points c.usage_line.result.now c.usage_line.ensures.ascii ∙ c.usage_line.ensures.text
