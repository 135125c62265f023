use Rattle.std.proofs.Common.{rules}
use Rattle.tclv_reply.proofs.Laws.{leaves_out_of_memory, grows_kept, keeps_trans}
use Rattle.tclv_strings.proofs.making.push_copies.Goals as goal

pub returns-in_err-push_bytes : goal.returns-in_err-push_bytes
returns-in_err-push_bytes c =
    let old = c.args.store.now in
    let mid = c.make_word.new.store in
    let new = c.push_bytes.new.store in
    leaves_out_of_memory _ old new c.from_residual-in_err-push_bytes.result (search rules) (grows_kept old new (keeps_trans old mid new c.make_word.ensures.kept c.in_err-push_bytes.ensures.kept))
