use Rattle.std.proofs.Common.{ap, ◌∙◌, ◌-◌, [], get_or}
use Rattle.std.specs.Str.{chars}
use Rattle.tclv_value.specs.Stacks.{top}
use Rattle.tclv_engine.proofs.WordLemmas.{usage_runs, first_of_top, raises_rest}
use Rattle.tclv_control.proofs.misuse.misused.Goals as goal

pub returns-clause-answer : goal.returns-clause-answer
returns-clause-answer g c here w told =
    let stack = c.args.machine.now.values.store.stack in
    usage_runs c.args.machine.now _ _ (top c.args.n stack) told c.raise_at.ensures.same
    (ap (λ l. get_or stack (l - c.args.n) []) c.height.ensures ∙ first_of_top stack c.args.n c.requires.some c.requires.words)
    (raises_rest _ _ _ c.raise_at.new.self.values.store.stack c.raise_at.result (ap chars c.as_bytes.ensures.value ∙ c.usage_text.ensures.points) c.raise_at.ensures.raises)
