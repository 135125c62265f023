use Rattle.std.proofs.Common.{sym, ◌∙◌}
use Rattle.std.specs.Str.{chars}
use Rattle.std.proofs.lemmas.Bool.{cond-false}
use Rattle.tclv_text.specs.Escapes.{unescape}
use Rattle.tclv_text.specs.Spans.{slice_of}
use Rattle.tclv_value.proofs.ElementLemmas.{unescaped}
use Rattle.tclv_value.proofs.elements.element.Goals as goal

pub returns : goal.returns
returns c =
    let spelling = chars (slice_of c.args.text.now c.args.span) in
    c.new-2.ensures ∙ unescaped c.new-bytes.result.items c.unescape.new.out.items (unescape spelling) c.new-bytes.ensures.items c.in_ok-unescape.ensures.text ∙ sym (cond-false _ spelling (unescape spelling) c.if-span.false)
