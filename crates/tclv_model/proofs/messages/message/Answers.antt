-- The parts are texts, and a template is ASCII.
use Rattle.std.proofs.Common.{List, ℕ, ◌++◌, ap, ◌∙◌}
use Rattle.tclv_model.specs.Blanks.{filled}
use Rattle.tclv_model.proofs.MessageLemmas.{message_appends}
use Rattle.tclv_model.proofs.messages.message.Goals as goal

pub returns-in-Ok-clause-text : goal.returns-in-Ok-clause-text
returns-in-Ok-clause-text c =
    let first = c.args.first.now in
    let second = c.args.second.now in
    let old = c.args.out.now.items in
    message_appends c.args.kind old c.append_filled.new.out.items first second (c.in-Ok.ensures.ok ∙ ap (λ (t : List ℕ). old ++ filled t first second) c.template_of.ensures)
