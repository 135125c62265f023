use Rattle.std.proofs.Common.{sym, ◌∙◌, ap, drop, length, arith}
use Rattle.tclv_text.proofs.TextLemmas.{first_split}
use Rattle.tclv_text.proofs.Lifted.{cut_by_rest}
use Rattle.tclv_strings.proofs.places.first_len.Goals as goal

pub returns : goal.returns
returns c =
    let text = c.args.text.now in
    let e = sym (c.chars.ensures.rest ∙ c.as_str.ensures) ∙ c.in-Some.ensures.steps.0 in
    let s = first_split text c.next.new.self.rest.now c.in-Some.c c.len_utf8.result c.requires.text e c.len_utf8.ensures.value in
    let all = ap length s.0 in
    cut_by_rest 1 c.len_utf8.result text c.requires.text s.1 s.3 (omega arith) (sym (ap (drop 1) s.0))
