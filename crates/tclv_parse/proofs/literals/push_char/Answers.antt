use Rattle.std.proofs.Common.{◌≡◌, ◌∷◌, ◌++◌, [], ap, sym, ◌∙◌}
use Rattle.std.specs.Str.{chars}
use Rattle.std.proofs.lemmas.Str.{chars-nil, chars_past_char}
use Rattle.std.proofs.lemmas.List.{append-nil}
use lib.Utf8.{encode}
use Rattle.tclv_parse.proofs.literals.push_char.Goals as goal

pub returns : goal.returns
returns c =
    let bs = c.as_bytes.result.now in
    let e : bs ≡ encode c.args.c ++ [] = c.as_bytes.ensures.value ∙ c.encode_utf8.ensures.value ∙ sym (append-nil (encode c.args.c)) in
    let one : chars bs ≡ c.args.c ∷ [] = chars_past_char bs [] c.args.c c.as_bytes.ensures.utf8 e ∙ ap (λ x. c.args.c ∷ x) chars-nil in
    c.in_ok-push.ensures.ok ∙ ap (λ x. c.args.text.now ++ x) one
