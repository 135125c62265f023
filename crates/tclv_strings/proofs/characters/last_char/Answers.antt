use Rattle.std.proofs.Common.{sym, ◌∙◌, rules}
use Rattle.std.specs.Char.{IsScalar}
use Rattle.tclv_strings.proofs.CharacterLemmas.{last_split}
use Rattle.tclv_strings.proofs.characters.last_char.Goals as goal

pub returns : goal.returns
returns c =
    let text = c.args.text.now in
    let e = sym (c.chars.ensures.rest ∙ c.as_str.ensures) ∙ c.in-Some.ensures.steps in
    let valid : IsScalar c.in-Some.c = search rules in
    let s = last_split text c.next_back.new.self.rest.now c.in-Some.c c.len_utf8.result c.requires.utf8 valid e c.len_utf8.ensures.value in
    record { char = s.0; front = s.1; within = s.3; some = s.2 }
