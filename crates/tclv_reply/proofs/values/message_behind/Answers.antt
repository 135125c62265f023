use Rattle.std.proofs.Common.{◌∙◌, List, ℕ, [], length, drop, ap, subst, sym, arith}
use Rattle.std.specs.Str.{chars, encode_utf8_all}
use Rattle.std.proofs.lemmas.Str.{chars-nil, IsUtf8-nil}
use Rattle.tclv_text.specs.Texts.{IsText, AppendsText}
use Rattle.tclv_model.specs.Message.{text_of}
use Rattle.tclv_model.specs.Values.{shown}
use Rattle.tclv_value.specs.View.{text_at}
use Rattle.tclv_reply.proofs.TextLemmas.{bytes_are}
use Rattle.tclv_reply.proofs.ReplyLemmas.{appended_to_none}
use Rattle.tclv_reply.proofs.values.message_behind.Goals as goal

pub behind-requires : goal.behind-requires
behind-requires c =
    let bytes = bytes_are c.in-Some.word.now (text_at c.args.store.now c.args.at) c.in-Some.ensures.text in
    omega (arith, ap length bytes)

pub shown-requires : goal.shown-requires
shown-requires c =
    let bytes = bytes_are c.in-Some.word.now (text_at c.args.store.now c.args.at) c.in-Some.ensures.text in
    subst IsText (ap (drop c.args.from) bytes ∙ sym c.behind.ensures) c.requires.rest

pub returns-clause-text : goal.returns-clause-text
returns-clause-text c =
    let t = text_at c.args.store.now c.args.at in
    let bytes = bytes_are c.in-Some.word.now t c.in-Some.ensures.text in
    let from = c.args.from in
    let kind = c.args.kind in
    let none : IsText [] = record { utf8 = IsUtf8-nil } in
    let first = c.shown.ensures.text ∙ ap (λ (b : List ℕ). shown (chars b)) (c.behind.ensures ∙ ap (drop from) (sym bytes)) in
    appended_to_none c.new-text.result.items c.message.new.out.items _ c.new-text.ensures.items
    (subst (λ (u : List ℕ). AppendsText c.new-text.result.items c.message.new.out.items u)
    (ap (λ (u : List ℕ). text_of kind u (chars [])) first ∙ ap (λ (v : List ℕ). text_of kind (shown (chars (drop from (encode_utf8_all t)))) v) chars-nil) (c.in_ok-message.ensures.text c.shown.ensures.utf8 none))
