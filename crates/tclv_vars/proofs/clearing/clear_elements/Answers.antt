use Rattle.std.proofs.Common.{◌∙◌}
use Rattle.tclv_vars.proofs.ClearLemmas.{without_turn, keeps_both, fewer_removed}
use Rattle.tclv_vars.proofs.clearing.clear_elements.Goals as goal

pub loop-cell-preserved-in-Some : goal.loop-cell-preserved-in-Some
loop-cell-preserved-in-Some c =
    let b = c.loop-cell.invariant in
    let texts = c.drop_cell.ensures.cells in (
      without_turn c.loop-cell.cells.map c.take_out.new.self.map c.loop-cell.elements c.pop.new.self _ _ c.take_out.ensures.removed c.in-Some.ensures.rest c.in-Some.ensures.entry ∙ b.0,
      without_turn c.loop-cell.store.cells c.drop_cell.new.self.cells c.loop-cell.elements c.pop.new.self _ _ texts c.in-Some.ensures.rest c.in-Some.ensures.entry ∙ b.1,
      c.drop_cell.ensures.stack ∙ b.2,
      keeps_both c.args.store.now c.loop-cell.store c.drop_cell.new.self b.3 c.drop_cell.ensures.keeps (fewer_removed c.loop-cell.store c.drop_cell.new.self _ c.drop_cell.ensures.stack texts),
    )
