use Rattle.std.proofs.Common.{◌∙◌, ap, List, ℕ}
use Rattle.std.specs.Str.{chars}
use Rattle.tclv_model.specs.Message.{text_of}
use Rattle.tclv_reply.proofs.ReplyLemmas.{appended_to_none}
use Rattle.tclv_reply.proofs.replies.message_on.Goals as goal

pub returns-clause-text : goal.returns-clause-text
returns-clause-text c =
    appended_to_none c.new-text.result.items c.message.new.out.items _ c.new-text.ensures.items (c.in_ok-message.ensures.text c.word_at.ensures.utf8 c.requires.second)
    ∙ ap (λ (w : List ℕ). text_of c.args.kind w (chars c.args.second.now)) c.word_at.ensures.text
