use Rattle.std.proofs.Common.{◌∙◌, ap, [], get_or}
use Rattle.tclv_plain.specs.InfoRows.{info_command}
use Rattle.tclv_engine.proofs.NameLemmas.{bytes-are}
use Rattle.tclv_plain.proofs.info_commands.info_at.Goals as goal

pub returns-clause-answer : goal.returns-clause-answer
returns-clause-answer g c =
    c.info_command.ensures
    ∙ ap info_command (bytes-are c.lend.result.now (get_or c.args.machine.now.values.store.stack c.args.at []) c.lend.ensures.utf8 (c.lend.ensures.text ∙ ap (λ s. get_or s c.args.at []) c.in_ok-make_text.ensures.stack))
