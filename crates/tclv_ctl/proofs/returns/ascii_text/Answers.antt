use Rattle.std.proofs.Common.{◌∙◌, ap}
use Rattle.std.specs.Str.{chars}
use Rattle.tclv_reply.proofs.Laws.{ascii_points}
use Rattle.tclv_ctl.proofs.returns.ascii_text.Goals as goal

pub returns : goal.returns
returns c = c.new.ensures ∙ ap chars (c.in_ok-from_slice.ensures.items ∙ c.as_bytes.ensures.value) ∙ ascii_points c.args.text.now c.requires
