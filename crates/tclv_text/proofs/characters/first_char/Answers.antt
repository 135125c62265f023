use Rattle.std.proofs.Common.{sym, ◌∙◌, ap, drop, length, arith}
use Rattle.tclv_text.proofs.TextLemmas.{first_split}
use Rattle.tclv_text.proofs.Lifted.{cut_by_rest}
use Rattle.tclv_text.proofs.characters.first_char.Goals as goal

pub returns : goal.returns
returns c =
    let text = c.args.text.now in
    let e = sym (c.chars.ensures.rest ∙ c.as_str.ensures) ∙ c.in-Some.ensures.steps.0 in
    let s = first_split text c.next.new.self.rest.now c.in-Some.c c.len_utf8.result c.requires.utf8 e c.len_utf8.ensures.value in
    let all = ap length s.0 in
    record {
      char = s.0;
      taken = cut_by_rest 1 c.len_utf8.result text c.requires.utf8 s.1 s.3 (omega arith) (sym (ap (drop 1) s.0));
      some = s.2;
    }
