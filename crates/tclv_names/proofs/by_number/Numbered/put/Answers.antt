use Rattle.std.proofs.Common.{ap, ◌∙◌}
use Rattle.std.specs.FinMap as finite
use Rattle.tclv_names.specs.Keyed.{Roomy}
use Rattle.tclv_names.proofs.KeyedLemmas.{numbered_inserted}
use Rattle.tclv_names.proofs.by_number.Numbered.put.Goals as goal

pub returns-clause-put : goal.returns-clause-put
returns-clause-put g c = numbered_inserted c.self.inside.table c.insert.new.self c.args.number c.args.x c.in-Ok.ensures.updates
    ∙ ap (λ (r : Roomy g.row.X.Denot). finite.insert r.map c.args.number c.args.x) c.self.view_is
