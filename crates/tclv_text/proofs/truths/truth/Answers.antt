use Rattle.std.proofs.Common.{◌∙◌}
use Rattle.tclv_text.proofs.TruthLemmas.{truth_lifted}
use Rattle.tclv_text.proofs.truths.truth.Goals as goal

pub returns : goal.returns
returns c = c.truth_of.ensures ∙ truth_lifted c.args.text.now c.requires
