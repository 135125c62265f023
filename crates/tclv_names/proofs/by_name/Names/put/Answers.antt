use Rattle.std.proofs.Common.{ap, ◌∙◌}
use Rattle.std.specs.FinMap.{insert}
use Rattle.tclv_names.proofs.KeyedLemmas.{named_inserted}
use Rattle.tclv_names.proofs.by_name.Names.put.Goals as goal

pub returns-clause-put : goal.returns-clause-put
returns-clause-put g c = named_inserted (λ k. k.items) c.self.inside.table c.insert.new.self c.in-Ok.key.items c.args.x c.in-Ok-insert.ensures.updates
    ∙ ap (λ m. insert m c.in-Ok.key.items c.args.x) c.self.view_is ∙ ap (λ t. insert c.args.self.now t c.args.x) c.in-Ok.ensures.items
