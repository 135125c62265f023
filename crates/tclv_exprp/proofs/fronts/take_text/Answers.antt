use Rattle.std.proofs.Common.{◌++◌, sym, ap, ◌∙◌, drop, take}
use Rattle.std.specs.Str.{chars}
use Rattle.std.proofs.lemmas.Str.{chars-nil}
use Rattle.tclv_exprp.proofs.FrontLemmas.{later}
use Rattle.tclv_exprp.proofs.fronts.take_text.Goals as goal

pub returns-clause-text : goal.returns-clause-text
returns-clause-text c =
    let l = later c.here-start.result c.pass.new.cursor c.args.count (c.pass.ensures ∙ ap (drop c.args.count) (sym c.here-start.ensures)) in
    c.in_ok-push.ensures.ok ∙ ap (λ x. c.new-text.result ++ x) (c.up_to.ensures.text ∙ l.front ∙ ap (take c.args.count) c.here-start.ensures) ∙ ap (λ x. x ++ take c.args.count c.args.cursor.now) (c.new-text.ensures ∙ ap chars c.new.ensures.items ∙ chars-nil)
