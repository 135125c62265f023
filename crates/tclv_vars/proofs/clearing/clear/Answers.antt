use Rattle.tclv_vars.proofs.ClearLemmas.{keeps_both, fewer_without}
use Rattle.tclv_vars.proofs.clearing.clear.Goals as goal

pub returns-in-Some-Array-clause-keeps : goal.returns-in-Some-Array-clause-keeps
returns-in-Some-Array-clause-keeps c = keeps_both c.args.store.now c.drop_cell.new.self c.clear_elements.new.store c.drop_cell.ensures.keeps c.clear_elements.ensures.keeps
    (fewer_without c.drop_cell.new.self c.clear_elements.new.store _ c.clear_elements.ensures.stack c.clear_elements.ensures.texts)
