use Rattle.std.proofs.Common.{ap, ◌∙◌}
use Rattle.std.specs.Str.{bytes_eq}
use Rattle.tclv_reply.proofs.TextLemmas.{ascii_from_test}
use Rattle.tclv_reply.proofs.OptionLemmas.{same_key}
use Rattle.tclv_reply.proofs.words.made_word_is.Goals as goal

pub returns : goal.returns
returns c =
    c.eq.ensures ∙ ap (λ w. bytes_eq w c.args.text.now) c.as_str.ensures
    ∙ same_key c.word_at.result.now c.args.text.now c.word_at.ensures.utf8 (ascii_from_test c.args.text.now c.requires.ascii)
    ∙ ap (λ w. bytes_eq w c.args.text.now) c.word_at.ensures.text
