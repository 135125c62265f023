use Rattle.std.proofs.Common.{ap, ◌∙◌, ◌++◌}
use Rattle.std.specs.Str.{chars}
use Rattle.std.proofs.lemmas.Str.{chars-nil}
use Rattle.tclv_engine.specs.Answers.{last_of}
use Rattle.tclv_engine.proofs.DataLemmas.{without_code}
use Rattle.tclv_engine.proofs.machine.Machine.refuse.Goals as goal

pub returns-in-Ok-clause-refuses : goal.returns-in-Ok-clause-refuses
returns-in-Ok-clause-refuses g c =
    let empty = c.new-code.ensures ∙ ap chars c.new.ensures.items ∙ chars-nil in (
      (c.in-Ok.ensures.text ∙ ap (λ t. t ++ last_of c.args.self.now.values.store.stack) empty, ap last_of c.in-Ok.ensures.stack),
      without_code c.args.self.now.values.store.stack c.take_onto.new.self.values.store.stack c.requires c.in-Ok.ensures.stack,
    )
