use Rattle.std.proofs.Common.{sym, ap, ◌∙◌}
use Rattle.std.specs.FinMap as finite
use Rattle.tclv_names.specs.Keyed.{Roomy}
use Rattle.tclv_names.proofs.KeyedLemmas.{get-numbered, numbered_removed}
use Rattle.tclv_names.proofs.by_number.Numbered.take_out.Goals as goal

pub returns-clause-value : goal.returns-clause-value
returns-clause-value g c = c.swap_remove.ensures.value ∙ sym (get-numbered c.self.inside.table.entries c.args.number) ∙ ap (λ (r : Roomy g.row.X.Denot). finite.get r.map c.args.number) c.self.view_is

pub returns-clause-removed : goal.returns-clause-removed
returns-clause-removed g c = numbered_removed c.self.inside.table c.swap_remove.new.self c.args.number c.swap_remove.ensures.updates
    ∙ ap (λ (r : Roomy g.row.X.Denot). finite.remove r.map c.args.number) c.self.view_is
