use Rattle.std.proofs.Common.{ap}
use Rattle.std.proofs.Math.Facts.{to_z-of_z}
use Rattle.tclv_text.specs.Numbers.{whole_text}
use Rattle.tclv_reply.proofs.ReplyLemmas.{pushes_as}
use Rattle.tclv_reply.proofs.replies.push_number.Goals as goal

pub returns-clause-pushed : goal.returns-clause-pushed
returns-clause-pushed c = pushes_as c.push_whole.result c.args.store.now c.push_whole.new.self _ _ (ap whole_text (to_z-of_z c.ranges.n)) c.push_whole.ensures.pushed c.push_whole.ensures.cells c.push_whole.ensures.keeps
