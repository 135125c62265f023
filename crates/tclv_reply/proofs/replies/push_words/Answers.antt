use Rattle.std.proofs.Common.{arith}
use Rattle.tclv_reply.proofs.ReplyLemmas.{grows_trans, grows_pushed}
use Rattle.tclv_reply.proofs.StackLemmas.{one_more}
use Rattle.tclv_reply.proofs.replies.push_words.Goals as goal

pub loop-at-preserved : goal.loop-at-preserved
loop-at-preserved c =
    let s = c.args.store.now in
    let p = c.in_ok-push_word.ensures.pushed in
    record {
      grows = grows_trans s c.loop-at.store c.push_word.new.store c.loop-at.invariant.grows (grows_pushed c.loop-at.store c.push_word.new.store _ p);
      pushed = one_more s.stack c.loop-at.store.stack c.push_word.new.store.stack c.args.from c.loop-at.at (omega arith) (omega arith) c.loop-at.invariant.pushed p.stack;
    }
