use Rattle.std.proofs.Common.{ap, ◌∙◌}
use Rattle.std.specs.Option.{ok_or}
use Rattle.tclv_text.specs.declared.indices.IndexFault.TheVariants.{BadIndex}
use Rattle.tclv_text.proofs.IndexLemmas.{place_lifted}
use Rattle.tclv_text.proofs.indices.index_of.Goals as goal

pub returns : goal.returns
returns c = c.ok_or.ensures.value ∙ ap (λ o. ok_or o BadIndex) (c.place.ensures ∙ place_lifted c.args.len c.args.text.now c.requires)
