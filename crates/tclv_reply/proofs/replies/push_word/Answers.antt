use Rattle.tclv_reply.proofs.ReplyLemmas.{pushes}
use Rattle.tclv_reply.proofs.replies.push_word.Goals as goal

pub returns-clause-pushed : goal.returns-clause-pushed
returns-clause-pushed c = pushes c.push_copy.result c.args.store.now c.push_copy.new.self _ c.push_copy.ensures.pushed c.push_copy.ensures.cells c.push_copy.ensures.keeps
