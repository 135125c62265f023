use Rattle.tclv_reply.proofs.Laws.{grows_kept, keeps_trans}
use Rattle.tclv_ctl.proofs.arguments.push_usage.Goals as goal

pub returns-in_err-push_message-clause-grows : goal.returns-in_err-push_message-clause-grows
returns-in_err-push_message-clause-grows c =
    grows_kept c.args.store.now c.push_message.new.store (keeps_trans c.args.store.now c.spaced_words.new.store c.push_message.new.store c.in_ok-call.ensures.kept c.in_err-push_message.ensures.kept)
