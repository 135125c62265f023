use Rattle.std.proofs.Common.{sym, ◌∙◌}
use Rattle.tclv_value.proofs.ViewLemmas.{cell_is_there}
use Rattle.tclv_value.proofs.store.Store.has_cell.Goals as goal

pub returns : goal.returns
returns c =
    let e = c.contains_key.ensures ∙ cell_is_there c.self.inside.heap.graph c.self.inside.stack.items c.self.inside.cells.entries _ c.args.cell c.self.view_is in
    (λ h. sym e ∙ h, λ h. e ∙ h)
