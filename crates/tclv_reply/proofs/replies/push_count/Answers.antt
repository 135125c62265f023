use Rattle.tclv_reply.proofs.TextLemmas.{all_ascii}
use Rattle.tclv_reply.proofs.replies.push_count.Goals as goal

pub push_ascii-requires : goal.push_ascii-requires
push_ascii-requires c = all_ascii c.format.result.now c.format.ensures.ascii
