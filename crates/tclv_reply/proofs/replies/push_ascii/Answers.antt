use Rattle.std.proofs.Common.{◌∙◌, ap}
use Rattle.std.specs.Str.{chars}
use Rattle.tclv_reply.proofs.TextLemmas.{ascii_points}
use Rattle.tclv_reply.proofs.ReplyLemmas.{pushed_as}
use Rattle.tclv_reply.proofs.replies.push_ascii.Goals as goal

pub returns-clause-pushed : goal.returns-clause-pushed
returns-clause-pushed c = pushed_as c.push_bytes.result c.args.store.now c.push_bytes.new.store _ c.args.text.now (ap chars c.as_bytes.ensures.value ∙ ascii_points c.args.text.now c.requires) c.push_bytes.ensures.pushed
