use Rattle.std.proofs.Common.{ap, ◌∙◌}
use Rattle.std.specs.Str.{chars}
use Rattle.tclv_engine.proofs.WordLemmas.{raises_rest}
use Rattle.tclv_plain.proofs.misuse.misused.Goals as goal

pub returns-clause-raises : goal.returns-clause-raises
returns-clause-raises g c = raises_rest _ _ _ c.raise_at.new.self.values.store.stack c.raise_at.result (ap chars c.as_bytes.ensures.value ∙ c.usage_text.ensures.points) c.raise_at.ensures.raises
