use Rattle.tclv_reply.proofs.ReplyLemmas.{pushes}
use Rattle.tclv_reply.proofs.replies.push_bytes.Goals as goal

pub returns-clause-pushed : goal.returns-clause-pushed
returns-clause-pushed c = pushes c.push_text.result c.args.store.now c.push_text.new.self _ c.push_text.ensures.pushed c.push_text.ensures.cells c.push_text.ensures.keeps
