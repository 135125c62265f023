use Rattle.std.proofs.Common.{ap, ◌∙◌, ◌++◌}
use Rattle.tclv_engine.proofs.WordLemmas.{text_kept}
use Rattle.tclv_plain.proofs.variable_commands.append_place.Goals as goal

pub returns-clause-text : goal.returns-clause-text
returns-clause-text g c = c.in_ok-push.ensures.ok ∙ ap (λ t. c.args.text.now ++ t) (c.lend.ensures.text ∙ text_kept c.args.machine.now.values.store c.make_text.new.self.store c.args.place c.in_ok-make_text.ensures.stack c.in_ok-make_text.ensures.same.cells)
