use Rattle.std.proofs.Common.{◌∙◌, ap, sym, subst, refl, take, drop, IsUtf8, ◌≡◌}
use Rattle.std.specs.Str.{chars}
use Rattle.std.proofs.lemmas.Str.{chars-IsAscii, IsUtf8-from_ascii}
use Rattle.tclv_engine.specs.ExpressionFaults.{ascii_front}
use Rattle.tclv_engine.proofs.NameLemmas.{bytes-are}
use Rattle.tclv_engine.proofs.ExpressionFaultLemmas.{front_ascii}
use Rattle.tclv_engine.proofs.expression_texts.named_at.Goals as goal

pub returns-clause-text : goal.returns-clause-text
returns-clause-text c =
    let part = take c.args.len (drop c.args.at c.args.text.now) in
    let found : c.ascii_front.result.now ≡ ascii_front part =
    c.ascii_front.ensures ∙ ap ascii_front (c.up_to.ensures ∙ ap (take c.args.len) c.behind.ensures) in
    ap chars found ∙ chars-IsAscii (ascii_front part) (front_ascii part) ∙ ap (λ b. ascii_front (take c.args.len (drop c.args.at b))) (bytes-are _ _ c.requires refl)

pub returns-clause-utf8 : goal.returns-clause-utf8
returns-clause-utf8 c = record { utf8 = subst IsUtf8 (sym c.ascii_front.ensures) (IsUtf8-from_ascii (ascii_front c.up_to.result.now) (front_ascii c.up_to.result.now)) }
