use Rattle.std.proofs.Common.{◌∙◌, ap}
use Rattle.tclv_reply.specs.Shown.{is_shown}
use Rattle.tclv_reply.proofs.ShownLemmas.{sign_shown}
use Rattle.tclv_reply.proofs.values.begins_shown.Goals as goal

pub returns : goal.returns
returns c = c.is_shown.ensures ∙ ap is_shown c.peek.ensures ∙ sign_shown c.args.at.now
