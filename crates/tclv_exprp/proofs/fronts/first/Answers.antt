use Rattle.std.proofs.Common.{sym, ◌∙◌, ap, drop, length}
use Rattle.tclv_exprp.proofs.FrontLemmas.{first_some, first_none}
use Rattle.tclv_exprp.proofs.fronts.first.Goals as goal

pub returns-in-Some : goal.returns-in-Some
returns-in-Some c =
    let e = sym (c.chars.ensures.rest ∙ c.as_str.ensures) ∙ c.in-Some.ensures.steps.0 in
    first_some c.up_to.result.now c.next.new.self.rest.now c.in-Some.c c.args.cursor.now c.skip.new.self c.up_to.ensures.utf8 c.up_to.ensures.text (c.skip.ensures ∙ ap (drop 1) c.here-next.ensures) e

pub returns-in-None : goal.returns-in-None
returns-in-None c =
    first_none c.up_to.result.now c.args.cursor.now c.skip.new.self c.up_to.ensures.text (c.skip.ensures ∙ ap (drop 1) c.here-next.ensures) (ap length (sym (c.chars.ensures.rest ∙ c.as_str.ensures)) ∙ c.in-None.ensures.steps.0.0)
