use Rattle.std.proofs.Common.{sym, ap, ◌∙◌}
use Rattle.std.specs.FinMap as finite
use Rattle.tclv_names.specs.Keyed.{Roomy}
use Rattle.tclv_names.proofs.KeyedLemmas.{get-numbered}
use Rattle.tclv_names.proofs.by_number.Numbered.get.Goals as goal

pub returns : goal.returns
returns g c = record {
  value = c.get.ensures.value ∙ sym (get-numbered c.self.inside.table.entries c.args.number) ∙ ap (λ (r : Roomy g.row.X.Denot). finite.get r.map c.args.number) c.self.view_is;
}
