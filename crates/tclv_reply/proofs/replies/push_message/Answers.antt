use Rattle.std.proofs.Common.{◌∙◌, ap}
use Rattle.std.specs.Str.{chars}
use Rattle.tclv_reply.proofs.ReplyLemmas.{pushed_as, appended_to_none}
use Rattle.tclv_reply.proofs.replies.push_message.Goals as goal

pub returns-clause-pushed : goal.returns-clause-pushed
returns-clause-pushed c =
    pushed_as c.push_bytes.result c.args.store.now c.push_bytes.new.store _ _
    (ap chars c.as_slice.ensures.value ∙ appended_to_none c.new-text.result.items c.message.new.out.items _ c.new-text.ensures.items (c.in_ok-message.ensures.text c.requires.first c.requires.second))
    c.push_bytes.ensures.pushed
