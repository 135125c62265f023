use Rattle.tclv_vars.proofs.UndoLemmas.{undo_write}
use Rattle.tclv_vars.proofs.laws.a_write_is_undone.Goals as goal

pub returns : goal.returns
returns c = undo_write
