use Rattle.std.proofs.Common.{◌∙◌, ap, List, ℕ, [], ◌∷◌, ◌++◌, get_or}
use Rattle.std.specs.Str.{chars}
use Rattle.tclv_model.specs.Message.{text_of}
use Rattle.tclv_reply.proofs.TextLemmas.{ascii_points}
use Rattle.tclv_reply.proofs.ReplyLemmas.{grows_kept, grows_trans}
use Rattle.tclv_reply.proofs.replies.push_message_on.Goals as goal

pub returns-in_err-push_bytes-clause-grows : goal.returns-in_err-push_bytes-clause-grows
returns-in_err-push_bytes-clause-grows c =
    grows_trans c.args.store.now c.make_word.new.store c.push_bytes.new.store (grows_kept c.args.store.now c.make_word.new.store c.make_word.ensures.kept) (grows_kept c.make_word.new.store c.push_bytes.new.store c.in_err-push_bytes.ensures.kept)

pub returns-clause-pushed : goal.returns-clause-pushed
returns-clause-pushed c =
    let kind = c.args.kind in
    let at = c.args.at in
    let second = c.args.second.now in
    c.in_ok-push_bytes.ensures.pushed.stack
    ∙ ap (λ (s : List (List ℕ)). s ++ chars c.as_slice.result.now ∷ []) c.make_word.ensures.kept.stack
    ∙ ap (λ (t : List ℕ). c.args.store.now.stack ++ t ∷ [])
    (ap chars c.as_slice.ensures.value ∙ c.in_ok-text.ensures.text ∙ ap (λ (s : List (List ℕ)). text_of kind (get_or s at []) (chars c.as_bytes.result.now)) c.make_word.ensures.kept.stack
    ∙ ap (λ (t : List ℕ). text_of kind (get_or c.args.store.now.stack at []) (chars t)) c.as_bytes.ensures.value ∙ ap (λ (t : List ℕ). text_of kind (get_or c.args.store.now.stack at []) t) (ascii_points second c.requires.second))
