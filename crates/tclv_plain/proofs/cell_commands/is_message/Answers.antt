use Rattle.std.proofs.Common.{◌∙◌, ◌-◌, ap, [], get_or}
use Rattle.std.specs.Str.{chars, bytes_eq}
use Rattle.tclv_engine.proofs.NameLemmas.{same-texts}
use Rattle.tclv_plain.proofs.cell_commands.is_message.Goals as goal

pub returns-clause-answer : goal.returns-clause-answer
returns-clause-answer g c =
    let second = c.lend.ensures.text ∙ ap (λ stack. get_or stack (c.height.result - 2) []) c.in_ok-make_text.ensures.stack ∙ ap (λ l. get_or c.args.machine.now.values.store.stack (l - 2) []) c.height.ensures in
    c.is_word.ensures ∙ same-texts _ _ c.lend.ensures.utf8 c.requires.message ∙ ap (λ t. bytes_eq t (chars c.args.message.now)) second
