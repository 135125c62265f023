use Rattle.std.proofs.Common.{rules}
use Rattle.tclv_reply.proofs.Laws.{leaves_out_of_memory, grows_kept, keeps_trans}
use Rattle.tclv_lists.proofs.joining.push_parts_of.Goals as goal

pub returns-in_err-between : goal.returns-in_err-between
returns-in_err-between c =
    let old = c.args.store.now in
    let mid = c.copy_word.new.store in
    let new = c.copy_word-2.new.store in
    leaves_out_of_memory _ old new c.from_residual-in_err-between.result (search rules) (grows_kept old new (keeps_trans old mid new c.copy_word.ensures.kept c.copy_word-2.ensures.kept))
