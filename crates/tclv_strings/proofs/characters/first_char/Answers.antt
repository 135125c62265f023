use Rattle.std.proofs.Common.{sym, ◌∙◌}
use Rattle.tclv_text.proofs.TextLemmas.{first_split}
use Rattle.tclv_strings.proofs.characters.first_char.Goals as goal

pub returns : goal.returns
returns c =
    let text = c.args.text.now in
    let e = sym (c.chars.ensures.rest ∙ c.as_str.ensures) ∙ c.in-Some.ensures.steps.0 in
    let s = first_split text c.next.new.self.rest.now c.in-Some.c c.len_utf8.result c.requires.utf8 e c.len_utf8.ensures.value in
    record { char = s.0; rest = s.1; within = s.3; some = s.2 }
