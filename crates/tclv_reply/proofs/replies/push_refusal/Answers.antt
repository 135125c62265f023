use Rattle.std.proofs.Common.{◌∙◌, ap, List, ℕ, [], ◌∷◌, ◌++◌}
use Rattle.std.specs.Str.{chars}
use Rattle.std.proofs.lemmas.Str.{chars-nil}
use Rattle.tclv_model.specs.Message.{text_of}
use Rattle.tclv_reply.proofs.StackLemmas.{two_pushed}
use Rattle.tclv_reply.proofs.replies.push_refusal.Goals as goal

pub returns-clause-pushed : goal.returns-clause-pushed
returns-clause-pushed c =
    two_pushed c.args.store.now.stack c.push_message.new.store.stack c.push_ascii.new.store.stack _ _
    (c.in_ok-push_message.ensures.pushed.stack ∙ ap (λ (v : List ℕ). c.args.store.now.stack ++ text_of c.args.kind (chars c.args.first.now) v ∷ []) chars-nil)
    c.in_ok-push_ascii.ensures.pushed.stack
