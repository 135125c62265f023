use Rattle.std.proofs.Common.{sym, ap, ◌∙◌}
use Rattle.std.specs.FinMap.{get}
use Rattle.tclv_names.proofs.KeyedLemmas.{get-named}
use Rattle.tclv_names.proofs.by_name.Names.lend.Goals as goal

pub returns : goal.returns
returns g c = record {
  value = c.get.ensures.value ∙ sym (get-named (λ k. k.items) _ _) ∙ ap (λ m. get m c.args.name.now) c.self.view_is;
}
