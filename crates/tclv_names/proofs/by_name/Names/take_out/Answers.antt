use Rattle.std.proofs.Common.{ap, ◌∙◌}
use Rattle.std.specs.FinMap.{remove}
use Rattle.tclv_names.proofs.KeyedLemmas.{named_removed}
use Rattle.tclv_names.proofs.by_name.Names.take_out.Goals as goal

pub returns : goal.returns
returns g c = named_removed (λ k. k.items) c.self.inside.table c.swap_remove.new.self c.args.name.now c.swap_remove.ensures.updates ∙ ap (λ m. remove m c.args.name.now) c.self.view_is
