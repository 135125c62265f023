use Rattle.tclv_reply.proofs.Laws.{grows_kept, grows_trans}
use Rattle.tclv_lists.proofs.sorting.push_missing.Goals as goal

pub returns-in_err-second-clause-grows : goal.returns-in_err-second-clause-grows
returns-in_err-second-clause-grows c =
    let old = c.args.store.now in
    let one = c.copy_of.new.store in
    let two = c.copy_of-2.new.store in
    grows_trans old one two (grows_kept old one c.in_ok-first.ensures.kept) (grows_kept one two c.in_err-second.ensures.kept)

pub returns-in_err-push_message-clause-grows : goal.returns-in_err-push_message-clause-grows
returns-in_err-push_message-clause-grows c =
    let old = c.args.store.now in
    let one = c.copy_of.new.store in
    let two = c.copy_of-2.new.store in
    let new = c.push_message.new.store in
    grows_trans old two new (grows_trans old one two (grows_kept old one c.in_ok-first.ensures.kept) (grows_kept one two c.in_ok-second.ensures.kept)) (grows_kept two new c.in_err-push_message.ensures.kept)
